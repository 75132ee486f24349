-- `eta::naming::name` meets its contract: each kind of variable is a law of `Variables`.
use Prim.Native.Nat.{◌-◌}
use mathlib.Core.Path.{refl}
use native.Mathlib.Omega.{arith}
use Rattle.eta.proofs.Remade.{bound-stored, loose-stored}
use Rattle.eta.proofs.Variables.{called_zero, called_loose, called_bound}
use Rattle.eta.proofs.Counting.{counts-loose, counts-bound}
use Rattle.eta.proofs.naming.name.Goals as goal

pub returns-then-index-eq0 : goal.returns-then-index-eq0
returns-then-index-eq0 c =
    let a = c.args in
    let (next, added) = c.put_named.ensures in
    rw (called_zero a.depth a.index c.if-index-eq0.true)
    (next, added.same, loose-stored added refl, counts-loose a.counts.now a.depth 0)

pub returns-then-around-index : goal.returns-then-around-index
returns-then-around-index c =
    let a = c.args in
    let (next, added) = c.put_named-then-around-index.ensures in
    rw (called_loose a.depth a.index c.if-index-eq0.false c.if-around-index.true)
    (next, added.same, loose-stored added refl, counts-loose a.counts.now a.depth (a.index - a.depth))

pub returns : goal.returns
returns c =
    let a = c.args in
    let level = a.depth - a.index in
    let (next, added) = c.put_named-2.ensures in
    let counted = counts-bound a.counts.now a.depth level (omega (arith, c.requires.2.long)) in
    rw (called_bound a.depth a.index c.if-index-eq0.false c.if-around-index.false)
    (next, added.same, bound-stored added refl, counted)
