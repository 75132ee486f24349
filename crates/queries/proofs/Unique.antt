-- ONE ANSWER: any two answers that a statement of this crate allows are the same, whatever is asked.
use Prim.Native.Nat.{ℕ}
use mathlib.Core.Path.{◌≡◌}
use mathlib.Core.Bool.{Bool}
use Rattle.std.specs.Prelude.{Result}
use Rattle.calculus.specs.Refusal.{Answer}
use Rattle.term.specs.Answers.{told}
use Rattle.term.specs.declared.Refusal.{Refusal}
use Rattle.term.proofs.Unique.{one_told}

-- nodes, height, max_depth, max_free_index
pub one_number : (a : Answer ℕ) {r q : Result ℕ Refusal} → told r ≡ a → told q ≡ a → r ≡ q
one_number a e k = one_told e k

-- has_free_variables, is_supercombinator, equality
pub one_truth : (a : Answer Bool) {r q : Result Bool Refusal} → told r ≡ a → told q ≡ a → r ≡ q
one_truth a e k = one_told e k
