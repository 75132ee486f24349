-- `parser::opens::Opens::resolve` meets its contract: what is open is passed one by one, from the innermost.
use Rattle.std.proofs.Common.{sym, ◌∙◌, arith, take}
use Rattle.std.proofs.lemmas.Iterator.Adapters.{YieldsList-from_rev_slice}
use Rattle.std.proofs.lemmas.Iterator.Consumers.{YieldsList-turn, YieldsList-end}
use Rattle.parser.proofs.Meeting.{held_there, looked_all, looks_past-group, looks_past-binder, looked_up}
use Rattle.parser.proofs.opens.Opens.resolve.Goals as goal

pub same_name-requires : goal.same_name-requires
same_name-requires c =
    let y = YieldsList-from_rev_slice (take c.self.inside.count c.self.inside.names) cc in
    let t = YieldsList-turn y c.loop-open.yielded _ c.loop-open.yielded_by _ _ c.in-Some.open c.in-Some.is c.next.ensures.steps in
    (c.requires.0, rw c.name.ensures (held_there c.requires.1 _ _ (rw c.self.view_is at t) c.if-open-ne0.true))

pub returns-then-same_name : goal.returns-then-same_name
returns-then-same_name c =
    let y = YieldsList-from_rev_slice (take c.self.inside.count c.self.inside.names) cc in
    let t = YieldsList-turn y c.loop-open.yielded _ c.loop-open.yielded_by _ _ c.in-Some.open c.in-Some.is c.next.ensures.steps in
    looked_up c.loop-open.yielded c.loop-open.invariant _ (rw c.self.view_is at t) c.if-open-ne0.true
    (rw c.name.ensures at (sym c.same_name.ensures ∙ c.if-same_name.true))

pub loop-open-preserved-then-open-ne0 : goal.loop-open-preserved-then-open-ne0
loop-open-preserved-then-open-ne0 c =
    let y = YieldsList-from_rev_slice (take c.self.inside.count c.self.inside.names) cc in
    let t = YieldsList-turn y c.loop-open.yielded _ c.loop-open.yielded_by _ _ c.in-Some.open c.in-Some.is c.next.ensures.steps in
    looks_past-binder c.loop-open.yielded c.loop-open.invariant _ (rw c.self.view_is at t) c.if-open-ne0.true
    (rw c.name.ensures at (sym c.same_name.ensures ∙ c.if-same_name.false)) _

pub loop-open-preserved : goal.loop-open-preserved
loop-open-preserved c =
    let y = YieldsList-from_rev_slice (take c.self.inside.count c.self.inside.names) cc in
    let t = YieldsList-turn y c.loop-open.yielded _ c.loop-open.yielded_by _ _ c.in-Some.open c.in-Some.is c.next.ensures.steps in
    looks_past-group c.loop-open.yielded c.loop-open.invariant _ (rw c.self.view_is at t) c.if-open-ne0.false _

pub returns : goal.returns
returns c =
    let y = YieldsList-from_rev_slice (take c.self.inside.count c.self.inside.names) cc in
    let t = YieldsList-end y c.loop-open.yielded _ c.loop-open.yielded_by _ _ c.in-None.is c.next.ensures.steps in
    looked_all c.loop-open.yielded c.loop-open.invariant (omega (arith, rw c.self.view_is at t.1))
