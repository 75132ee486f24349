-- `nodes::load` meets its contract: at each head it is a law of `Loading`. The offset grows at each call.
use Rattle.std.specs.Prelude.{Some}
use Prim.Native.Nat.{ℕ}
use mathlib.Core.Path.{◌≡◌, sym, ap, ◌∙◌}
use native.Mathlib.Omega.{arith}
use lib.ListN.{drop}
use Rattle.term.proofs.Places.{head_stands}
use Rattle.term.specs.Heads.{head_in}
use Rattle.term.specs.declared.Head.TheVariants.{Variable, Abstraction, Application}
use Rattle.nodes.proofs.Loading.{some-made, variable_asks, at_variable}
use Rattle.nodes.proofs.Loading.{body_asks, abstraction_asks, at_abstraction}
use Rattle.nodes.proofs.Loading.{left_asks, right_asks, application_asks, at_application}
use Rattle.nodes.proofs.+load.Goals as goal
use Rattle.nodes.proofs.+load.Goals.{In-Abstraction, In-Application, In-Variable}

-- the head in each arm
var-head : (t : ℕ) (c : In-Variable t)
    → let a = c.args in
    head_in (drop a.at a.s.now) ≡ Some (Variable c.in-Variable.index)
var-head t c = sym c.head_at.ensures ∙ c.unwrap.ensures ∙ ap Some c.in-Variable.is

lam-head : (t : ℕ) (c : In-Abstraction t)
    → let a = c.args in
    head_in (drop a.at a.s.now) ≡ Some Abstraction
lam-head t c = sym c.head_at.ensures ∙ c.unwrap.ensures ∙ ap Some c.in-Abstraction.is

app-head : (t : ℕ) (c : In-Application t)
    → let a = c.args in
    head_in (drop a.at a.s.now) ≡ Some Application
app-head t c = sym c.head_at.ensures ∙ c.unwrap.ensures ∙ ap Some c.in-Application.is

pub make_variable-requires : goal.make_variable-requires
make_variable-requires t c =
    (variable_asks (var-head t (goal.at.make_variable-requires t c).In-Variable) c.requires).0

pub load-body-requires : goal.load-body-requires
load-body-requires t c =
    let asks = body_asks (lam-head t (goal.at.load-body-requires t c).In-Abstraction) c.requires in
    (omega (arith, asks.inside), asks)

pub overflow_sub-top : goal.overflow_sub-top
overflow_sub-top t c =
    omega (arith, some-made (body_asks (lam-head t (goal.at.overflow_sub-top t c).In-Abstraction) c.requires) c.load-body.ensures)

pub make_abstraction-requires : goal.make_abstraction-requires
make_abstraction-requires t c =
    abstraction_asks (lam-head t (goal.at.make_abstraction-requires t c).In-Abstraction) c.requires c.load-body.ensures

pub load-left-requires : goal.load-left-requires
load-left-requires t c =
    let asks = left_asks (app-head t (goal.at.load-left-requires t c).In-Application) c.requires in
    (omega (arith, asks.inside), asks)

pub load-right-requires : goal.load-right-requires
load-right-requires t c =
    let left = left_asks (app-head t (goal.at.load-right-requires t c).In-Application) c.requires in
    let passed = c.load-left.ensures.passed left.term left.stands in
    let asks = right_asks (app-head t (goal.at.load-right-requires t c).In-Application) c.requires c.load-left.ensures in
    (omega (arith, asks.inside, passed), asks)

pub make_application-requires : goal.make_application-requires
make_application-requires t c =
    application_asks (app-head t (goal.at.make_application-requires t c).In-Application) c.requires c.load-left.ensures c.load-right.ensures

pub overflow_sub-left : goal.overflow_sub-left
overflow_sub-left t c =
    omega (arith, some-made (left_asks (app-head t (goal.at.overflow_sub-left t c).In-Application) c.requires) c.load-left.ensures)

pub overflow_sub-top-in-Application : goal.overflow_sub-top-in-Application
overflow_sub-top-in-Application t c =
    let asks = right_asks (app-head t (goal.at.overflow_sub-top-in-Application t c).In-Application) c.requires c.load-left.ensures in
    omega (arith, some-made asks c.load-right.ensures)

pub returns-in-Variable : goal.returns-in-Variable
returns-in-Variable t c =
    let (next, same, new) = c.make_variable.ensures in
    at_variable (var-head t (goal.at.returns-in-Variable t c).In-Variable) next same new

pub returns-in-Abstraction : goal.returns-in-Abstraction
returns-in-Abstraction t c =
    let (next, same, new) = c.make_abstraction.ensures in
    at_abstraction (lam-head t (goal.at.returns-in-Abstraction t c).In-Abstraction) c.requires c.load-body.ensures next same new

pub returns-in-Application : goal.returns-in-Application
returns-in-Application t c =
    let (next, same, new) = c.make_application.ensures in
    at_application (app-head t (goal.at.returns-in-Application t c).In-Application) c.requires c.load-left.ensures c.load-right.ensures next
    same new

pub unwrap-requires : goal.unwrap-requires
unwrap-requires t c = head_stands c.requires.stands _ c.head_at.ensures
