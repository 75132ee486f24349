-- What a first number tells of a node at rest, and a run that ends there at once.
use Prim.Native.Nat.{ℕ}
use mathlib.Core.Path.{◌≡◌, sym, ◌∙◌}
use mathlib.Core.Bool.{Bool, true, false, false≢true}
use mathlib.Core.Option.{none}
use mathlib.Core.List.{List}
use native.Mathlib.Omega.{arith}
use lib.Dec.{eqb}
use borrow.Author.Tests.{eqb-true}
use Rattle.calculus.specs.Term.{Term, var, lam, app}
use Rattle.calculus.specs.Orders.{Order, step, enters}
use Rattle.calculus.proofs.NextStep.{next-body, no_body}
use Rattle.nodes.specs.Packing.{kind_in, normal_in}
use Rattle.nodes.specs.Node.{node_in}
use Rattle.nodes.specs.declared.Node.{Node}
use Rattle.nodes.specs.declared.Node.TheVariants.{Variable, Abstraction}
use Rattle.nodes.specs.Store.{kind, variable, word, link}
use Rattle.nodes.proofs.Keeping.{says}
use Rattle.nodes.proofs.Parts.{reads_variable, reads_abstraction, reads_application}
use Rattle.engine.specs.Running.{Runs, Rests}
use Rattle.engine.specs.States.{State, halted}
use Rattle.engine.specs.declared.Stop.TheVariants.{Rested}
use Rattle.engine.proofs.Frames.{normal-stuck}
use Rattle.engine.proofs.Runs.{stays}

module _ (o : Order) (xs : List ℕ) (n : ℕ) {found : Node} (told : found ≡ node_in (word xs n) (link xs n)) where
  abbrev w : ℕ
  w = word xs n

  abbrev x : ℕ
  x = link xs n

  variable-rests : {i : ℕ} → found ≡ Variable i → (t : Term) → kind_in w ≡ kind t → step o t ≡ none
  unfolding kind
  variable-rests is (var i) one = normal-stuck o variable
  variable-rests is (lam b) two =
      let never : ◌≡◌ {A = ℕ} 0 1 = cc (told, is, reads_abstraction w x two) in absurd (omega arith)
  variable-rests is (app l r) three =
      let never : ◌≡◌ {A = ℕ} 0 1 = cc (told, is, reads_application w x three) in absurd (omega arith)

  shut_rests : enters o ≡ false → {b : ℕ} → found ≡ Abstraction b → (t : Term) → kind_in w ≡ kind t → step o t ≡ none
  unfolding kind
  shut_rests shut is (var i) one =
      let never : ◌≡◌ {A = ℕ} 0 1 = cc (told, is, reads_variable w x one) in absurd (omega arith)
  shut_rests shut is (lam b) two = next-body o (no_body (λ e. absurd (false≢true (sym shut ∙ e))))
  shut_rests shut is (app l r) three =
      let never : ◌≡◌ {A = ℕ} 0 1 = cc (told, is, reads_application w x three) in absurd (omega arith)

  pub rests-variable : {i : ℕ} → found ≡ Variable i → Rests o w
  rests-variable is t said = variable-rests is t said.kind_is

  pub rests_shut : {b : ℕ} → found ≡ Abstraction b → enters o ≡ false → Rests o w
  rests_shut is shut t said = shut_rests shut is t said.kind_is

pub rests-normal : (o : Order) {w : ℕ} {b : Bool} → b ≡ eqb (normal_in w) 1 → b ≡ true → Rests o w
rests-normal o {w} told is t said = normal-stuck o (said.is_normal (eqb-true (normal_in w) 1 (sym told ∙ is)))

pub at_once : {o : Order} {depth : ℕ} {s : State} {room : List ℕ} → Rests o (word room s.node)
    → Runs o room depth s (halted s Rested) room
at_once {s = s} {room = room} rest = record {
  ran = λ t ready. stays ready (rest t (says room t s.node ready.holds));
  ended = λ one. cc;
}

-- what closes the goals of `at_rest`
pub ruleset resting = (rests-normal, rests-variable, rests_shut)
