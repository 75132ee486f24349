-- ONE OUTCOME: any two outcomes that the statement of `print` allows are the same, the slice included.
use Prim.Native.Nat.{ℕ}
use mathlib.Core.Path.{◌≡◌, sym, ap, ◌∙◌}
use mathlib.Core.List.{List}
use Rattle.std.specs.Prelude.{Result}
use Rattle.calculus.specs.Reading.{Notation}
use Rattle.calculus.specs.Outcomes.{print_of}
use Rattle.term.specs.Answers.{told}
use Rattle.term.specs.declared.Refusal.{Refusal}
use Rattle.term.proofs.Unique.{one_told}

pub one_print : (n : Notation) (s out : List ℕ) {r q : Result ℕ Refusal} {after other : List ℕ}
    → (told r, after) ≡ print_of n s out → (told q, other) ≡ print_of n s out
    → (r ≡ q) × (after ≡ other)
one_print n s out e k = (one_told (ap (λ x. x.0) e) (ap (λ x. x.0) k), ap (λ x. x.1) (e ∙ sym k))
