-- `eta::naming::load` meets its contract: at each head it is a law of `Loaded`. The offset grows at each call.
use Rattle.std.specs.Prelude.{◌&&◌, ◌||◌, not, eqb, get_or}
use mathlib.Core.Path.{◌≡◌, sym, ◌∙◌}
use native.Mathlib.Omega.{arith}
use borrow.Author.Tests.{eq-eqb, ne_eqb}
use Rattle.term.proofs.Places.{head_stands}
use Rattle.eta.proofs.Loaded.{some-made, counts-length, variable_asks, at_variable}
use Rattle.eta.proofs.Loaded.{depth_low, depth_inside, body_asks, binder-fits, at_abstraction}
use Rattle.eta.proofs.Loaded.{left_asks, right_asks, parts-made, application-fits, at_application}
use Rattle.eta.proofs.naming.+load.Goals as goal
use Rattle.eta.proofs.naming.+load.Goals.{then-once, else-once, then-left, else-left}

pub unwrap-requires : goal.unwrap-requires
unwrap-requires t c = head_stands c.requires.stands _ c.head_at.ensures

-- A VARIABLE
pub name-requires : goal.name-requires
name-requires t c = variable_asks (sym c.head_at.ensures ∙ c.in-Variable.ensures) c.requires

pub returns-in-Variable : goal.returns-in-Variable
returns-in-Variable t c = at_variable (sym c.head_at.ensures ∙ c.in-Variable.ensures) c.name.ensures

-- AN ABSTRACTION
pub bounds-counts-depth : goal.bounds-counts-depth
bounds-counts-depth t c = depth_inside c.requires

pub load-body-requires : goal.load-body-requires
load-body-requires t c =
    let asks = body_asks (sym c.head_at.ensures ∙ c.in-Abstraction.ensures) c.requires in
    (omega (arith, asks.inside), asks)

pub bounds-counts-depth-in-Abstraction : goal.bounds-counts-depth-in-Abstraction
bounds-counts-depth-in-Abstraction t c =
    let asks = body_asks (sym c.head_at.ensures ∙ c.in-Abstraction.ensures) c.requires in
    omega (arith, depth_inside c.requires, counts-length asks c.load-body.ensures)

pub overflow_sub-node : goal.overflow_sub-node
overflow_sub-node t c =
    let asks = body_asks (sym c.head_at.ensures ∙ c.in-Abstraction.ensures) c.requires in
    omega (arith, some-made asks c.load-body.ensures)

pub put_named-requires : goal.put_named-requires
put_named-requires t c =
    let fits = binder-fits (sym c.head_at.ensures ∙ c.in-Abstraction.ensures) c.requires c.load-body.ensures in
    (fits, omega (arith, depth_low c.requires))

pub returns-after-once : goal.returns-after-once
returns-after-once t c =
    let (next, added) = c.put_named.ensures in
    let linear : c.if-once.linear ≡ (eqb (get_or c.load-body.new.counts c.args.depth 0) 1 && not c.load-body.result.zero) =
    elim c.if-once.branch [
      | then-once w ↦ simp (eq-eqb _ _ w.if-once.true, w.linear-is)
      | else-once w ↦ simp (w.linear-is, ne_eqb _ _ w.if-once.false)
    ] in
    at_abstraction (sym c.head_at.ensures ∙ c.in-Abstraction.ensures) c.requires c.load-body.ensures linear next added

-- AN APPLICATION
pub load-left-requires : goal.load-left-requires
load-left-requires t c =
    let asks = left_asks (sym c.head_at.ensures ∙ c.in-Application.ensures) c.requires in
    (omega (arith, asks.inside), asks)

pub load-right-requires : goal.load-right-requires
load-right-requires t c =
    let head = sym c.head_at.ensures ∙ c.in-Application.ensures in
    let left = left_asks head c.requires in
    let passed = c.load-left.ensures.passed left.term left.stands in
    let asks = right_asks head c.requires c.load-left.ensures in
    (omega (arith, asks.inside, passed), asks)

pub overflow_sub-node-in-Application : goal.overflow_sub-node-in-Application
overflow_sub-node-in-Application t c =
    let head = sym c.head_at.ensures ∙ c.in-Application.ensures in
    omega (arith, parts-made head c.requires c.load-left.ensures c.load-right.ensures)

pub overflow_sub-node-in-Application-2 : goal.overflow_sub-node-in-Application-2
overflow_sub-node-in-Application-2 t c =
    let head = sym c.head_at.ensures ∙ c.in-Application.ensures in
    omega (arith, parts-made head c.requires c.load-left.ensures c.load-right.ensures)

pub put_named-requires-in-Application : goal.put_named-requires-in-Application
put_named-requires-in-Application t c =
    let head = sym c.head_at.ensures ∙ c.in-Application.ensures in
    let made = parts-made head c.requires c.load-left.ensures c.load-right.ensures in
    (application-fits head c.requires c.load-left.ensures c.load-right.ensures, (omega arith, omega arith))

pub returns-after-left : goal.returns-after-left
returns-after-left t c =
    let (next, added) = c.put_named-in-Application.ensures in
    let zero : c.if-left.zero ≡ (c.load-left.result.zero || c.load-right.result.zero) =
    elim c.if-left.branch [
      | then-left w ↦ simp (w.if-left.true, w.zero-is)
      | else-left w ↦ simp (w.if-left.false, w.zero-is)
    ] in
    at_application (sym c.head_at.ensures ∙ c.in-Application.ensures) c.requires c.load-left.ensures
    c.load-right.ensures zero next added
