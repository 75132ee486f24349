-- ONE OUTCOME: any two outcomes that the statement of `parse` allows are the same, both buffers included.
use Prim.Native.Nat.{ℕ}
use mathlib.Core.Path.{◌≡◌, sym, ap, ◌∙◌}
use mathlib.Core.List.{List}
use Rattle.calculus.specs.Reading.{Notation}
use Rattle.calculus.specs.Outcomes.{parse_of}
use Rattle.std.specs.Prelude.{Result}
use Rattle.term.specs.Answers.{told}
use Rattle.term.specs.declared.Refusal.{Refusal}
use Rattle.term.proofs.Unique.{one_told}

pub one_parse : (n : Notation) (cap : ℕ) (text out room : List ℕ) {r q : Result ℕ Refusal} {after other left remaining : List ℕ}
    → (told r, after, left) ≡ parse_of n cap text out room
    → (told q, other, remaining) ≡ parse_of n cap text out room → (r ≡ q) × (after ≡ other) × (left ≡ remaining)
one_parse n cap text out room e k = (
  one_told (ap (λ x. x.0) e) (ap (λ x. x.0) k),
  ap (λ x. x.1) (e ∙ sym k),
  ap (λ x. x.2) (e ∙ sym k),
)
