-- `printer::gauging::gauge_part` meets its contract: at each head it is a law of `Gauged`. The room falls at each node.
use Rattle.std.specs.Prelude.{Some}
use Prim.Native.Nat.{ℕ}
use mathlib.Core.Path.{◌≡◌, sym, ap, ◌∙◌}
use native.Mathlib.Omega.{arith}
use lib.ListN.{drop}
use Rattle.term.specs.Heads.{head_in}
use Rattle.term.specs.declared.Head.TheVariants.{Variable, Abstraction, Application}
use Rattle.printer.proofs.Gauged.{at_first, at_variable, at_abstraction, left-ready}
use Rattle.printer.proofs.Gauged.{at_application}
use Rattle.printer.proofs.gauging.+gauge_part.Goals as goal
use Rattle.printer.proofs.gauging.+gauge_part.Goals.{In-Abstraction, In-Application, In-Variable}

-- the head in each arm
var-head : (t : ℕ) (c : In-Variable t)
    → head_in (drop c.loop-room.at c.args.s.now) ≡ Some (Variable c.in-Variable.index)
var-head t c = sym c.head_at.ensures ∙ c.in_ok-index.was ∙ ap Some c.in-Variable.is

lam-head : (t : ℕ) (c : In-Abstraction t)
    → head_in (drop c.loop-room.at c.args.s.now) ≡ Some Abstraction
lam-head t c = sym c.head_at.ensures ∙ c.in_ok-index.was ∙ ap Some c.in-Abstraction.is

app-head : (t : ℕ) (c : In-Application t)
    → head_in (drop c.loop-room.at c.args.s.now) ≡ Some Application
app-head t c = sym c.head_at.ensures ∙ c.in_ok-index.was ∙ ap Some c.in-Application.is

pub loop-room-init : goal.loop-room-init
loop-room-init t c = at_first _ _ _ _ _ _ _ c.requires

pub returns-in-Variable : goal.returns-in-Variable
returns-in-Variable t c =
    at_variable c.loop-room.invariant c.if-room-eq0.false (var-head t (goal.at.returns-in-Variable t c).In-Variable) c.max-counts.ensures
    c.variable_room.ensures

pub loop-room-preserved-in-Abstraction : goal.loop-room-preserved-in-Abstraction
loop-room-preserved-in-Abstraction t c =
    at_abstraction c.loop-room.invariant c.if-room-eq0.false (lam-head t (goal.at.loop-room-preserved-in-Abstraction t c).In-Abstraction)
    c.groups_abstraction.ensures c.pair_room.ensures c.binder_room.ensures

pub gauge_part-requires : goal.gauge_part-requires
gauge_part-requires t c = (
  omega (arith, c.decreases, c.loop-room.invariant.lower, c.if-room-eq0.false),
  left-ready c.loop-room.invariant c.if-room-eq0.false (app-head t (goal.at.gauge_part-requires t c).In-Application) c.pair_room-in-Application.ensures.1
      c.gap_room.ensures.1,
)

pub loop-room-preserved : goal.loop-room-preserved
loop-room-preserved t c =
    at_application c.loop-room.invariant c.if-room-eq0.false (app-head t (goal.at.loop-room-preserved t c).In-Application)
    c.groups_application.ensures c.pair_room-in-Application.ensures c.gap_room.ensures
    c.gauge_part.ensures c.in_ok-at-in-Application.was
