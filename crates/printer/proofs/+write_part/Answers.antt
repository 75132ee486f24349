-- `printer::write_part` meets its contract: at each head it is a law of `Walking`. The room falls at each call.
use Rattle.std.specs.Prelude.{Some}
use Prim.Native.Nat.{ℕ}
use mathlib.Core.Path.{◌≡◌, sym, ap, ◌∙◌}
use native.Mathlib.Omega.{arith}
use lib.ListN.{drop}
use Rattle.term.specs.Heads.{head_in}
use Rattle.term.specs.declared.Head.TheVariants.{Variable, Abstraction, Application}
use Rattle.printer.proofs.Walking.{at_variable, at_abstraction, at_application, head-there}
use Rattle.printer.proofs.Walking.{opened_by}
use Rattle.printer.proofs.Walking.{VariableAsks, AbstractionAsks, ApplicationAsks, GapAsks}
use Rattle.printer.proofs.Walking.{variable_asks, abstraction_asks, application_asks, left_asks}
use Rattle.printer.proofs.Walking.{gap_asks}
use Rattle.printer.proofs.+write_part.Goals as goal
use Rattle.printer.proofs.+write_part.Goals.{After-write_part-left, In-Abstraction, In-Application, In-Variable}

-- the head in each arm, and what is asked there
var-head : (t : ℕ) (c : In-Variable t)
    → head_in (drop c.loop-index.at c.args.s.now) ≡ Some (Variable c.in-Variable.index)
var-head t c = sym c.head_at.ensures ∙ c.unwrap.ensures ∙ ap Some c.in-Variable.is

lam-head : (t : ℕ) (c : In-Abstraction t)
    → head_in (drop c.loop-index.at c.args.s.now) ≡ Some Abstraction
lam-head t c = sym c.head_at.ensures ∙ c.unwrap.ensures ∙ ap Some c.in-Abstraction.is

app-head : (t : ℕ) (c : In-Application t)
    → head_in (drop c.loop-index.at c.args.s.now) ≡ Some Application
app-head t c = sym c.head_at.ensures ∙ c.unwrap.ensures ∙ ap Some c.in-Application.is

var-asks : (t : ℕ) (c : In-Variable t)
    → let a = c.args in
    let x = c.loop-index in
    VariableAsks a.style a.s.now x.at x.depth c.in-Variable.index x.closes x.to
var-asks t c =
    variable_asks c.loop-index.invariant c.requires (var-head t c)

lam_asks : (t : ℕ) (c : In-Abstraction t)
    → let a = c.args in
    let x = c.loop-index in
    AbstractionAsks a.style a.s.now x.at x.depth x.part x.closes x.to a.room
lam_asks t c =
    abstraction_asks c.loop-index.invariant c.requires (lam-head t c)

app_asks : (t : ℕ) (c : In-Application t)
    → let a = c.args in
    let x = c.loop-index in
    ApplicationAsks a.s.now x.at x.part x.closes x.to a.room
app_asks t c =
    application_asks c.loop-index.invariant c.requires (app-head t c)

left-written : (t : ℕ) (c : After-write_part-left t)
    → let a = c.args in
    GapAsks a.style a.s.now c.loop-index.at c.write_part-left.result
left-written t c =
    let app-head : head_in (drop c.loop-index.at c.args.s.now) ≡ Some Application = sym c.head_at.ensures ∙ c.unwrap.ensures ∙ ap Some c.in-Application.is in
    let asked = c.requires in
    let opened = c.put_if-opened-in-Application.ensures.reached in
    gap_asks c.loop-index.invariant asked (app-head) c.groups_application.ensures opened
    c.write_part-left.ensures

pub put_variable-end-requires : goal.put_variable-end-requires
put_variable-end-requires t c = omega (arith, var-asks t (goal.at.put_variable-end-requires t c).In-Variable)

pub put_times-to-requires : goal.put_times-to-requires
put_times-to-requires t c =
    omega (arith, var-asks t (goal.at.put_times-to-requires t c).In-Variable, c.put_variable-end.ensures.reached)

pub overflow_add-result : goal.overflow_add-result
overflow_add-result t c =
    omega (arith, var-asks t (goal.at.overflow_add-result t c).In-Variable)

pub returns-in-Variable : goal.returns-in-Variable
returns-in-Variable t c =
    at_variable c.loop-index.invariant (var-head t (goal.at.returns-in-Variable t c).In-Variable) c.put_variable-end.ensures
    c.put_times-to.ensures

pub put_if-opened-requires : goal.put_if-opened-requires
put_if-opened-requires t c = rw c.groups_abstraction.ensures (omega (arith, lam_asks t (goal.at.put_if-opened-requires t c).In-Abstraction))

pub overflow_add-closes : goal.overflow_add-closes
overflow_add-closes t c =
    let one = opened_by c.groups_abstraction.result c.put_if-opened.ensures in
    omega (arith, lam_asks t (goal.at.overflow_add-closes t c).In-Abstraction, one)

pub put_binder-to-requires : goal.put_binder-to-requires
put_binder-to-requires t c =
    let opened = rw c.groups_abstraction.ensures at c.put_if-opened.ensures.reached in
    omega (arith, lam_asks t (goal.at.put_binder-to-requires t c).In-Abstraction, opened)

pub overflow_add-depth : goal.overflow_add-depth
overflow_add-depth t c =
    omega (arith, lam_asks t (goal.at.overflow_add-depth t c).In-Abstraction)

pub overflow_add-at : goal.overflow_add-at
overflow_add-at t c =
    omega (arith, lam_asks t (goal.at.overflow_add-at t c).In-Abstraction)

pub loop-index-smaller-in-Abstraction : goal.loop-index-smaller-in-Abstraction
loop-index-smaller-in-Abstraction t c =
    omega (arith, lam_asks t (goal.at.loop-index-smaller-in-Abstraction t c).In-Abstraction)

pub loop-index-preserved-in-Abstraction : goal.loop-index-preserved-in-Abstraction
loop-index-preserved-in-Abstraction t c =
    let grouped = c.groups_abstraction.ensures in
    at_abstraction c.loop-index.invariant (lam-head t (goal.at.loop-index-preserved-in-Abstraction t c).In-Abstraction) grouped c.put_if-opened.ensures
    c.put_binder-to.ensures

pub put_if-opened-requires-in-Application : goal.put_if-opened-requires-in-Application
put_if-opened-requires-in-Application t c = rw c.groups_application.ensures (omega (arith, app_asks t (goal.at.put_if-opened-requires-in-Application t c).In-Application))

pub overflow_add-closes-in-Application : goal.overflow_add-closes-in-Application
overflow_add-closes-in-Application t c =
    let one = opened_by c.groups_application.result c.put_if-opened-in-Application.ensures in
    omega (arith, app_asks t (goal.at.overflow_add-closes-in-Application t c).In-Application, one)

pub overflow_add-at-in-Application : goal.overflow_add-at-in-Application
overflow_add-at-in-Application t c = omega (arith, app_asks t (goal.at.overflow_add-at-in-Application t c).In-Application)

pub overflow_sub-room : goal.overflow_sub-room
overflow_sub-room t c = omega (arith, app_asks t (goal.at.overflow_sub-room t c).In-Application)

pub write_part-left-requires : goal.write_part-left-requires
write_part-left-requires t c =
    let opened = c.put_if-opened-in-Application.ensures.reached in
    let grouped = c.groups_application.ensures in (
      omega (arith, app_asks t (goal.at.write_part-left-requires t c).In-Application),
      left_asks c.loop-index.invariant c.requires (app-head t (goal.at.write_part-left-requires t c).In-Application) grouped opened,
    )

pub put_gap-to-requires : goal.put_gap-to-requires
put_gap-to-requires t c = (left-written t (goal.at.put_gap-to-requires t c).After-write_part-left).countable

pub loop-index-smaller : goal.loop-index-smaller
loop-index-smaller t c = omega (arith, left-written t (goal.at.loop-index-smaller t c).After-write_part-left)

pub loop-index-preserved : goal.loop-index-preserved
loop-index-preserved t c =
    let grouped = c.groups_application.ensures in
    let left = c.write_part-left.ensures in
    at_application c.loop-index.invariant (app-head t (goal.at.loop-index-preserved t c).In-Application) grouped c.put_if-opened-in-Application.ensures left
    c.put_gap-to.ensures

pub unwrap-requires : goal.unwrap-requires
unwrap-requires t c = head-there c.loop-index.invariant c.requires _ c.head_at.ensures
