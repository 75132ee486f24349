-- ONE OUTCOME: any two outcomes that the statement of `apply` or `reduce` allows are the same, both buffers included.
use Prim.Native.Nat.{ℕ}
use mathlib.Core.Path.{◌≡◌, sym, ap, ◌∙◌}
use mathlib.Core.List.{List}
use Rattle.calculus.specs.Outcomes.{apply_of}
use Rattle.std.specs.Prelude.{Result}
use Rattle.term.specs.Answers.{told}
use Rattle.term.specs.declared.Refusal.{Refusal}
use Rattle.term.proofs.Unique.{one_told}
use Rattle.nodes.specs.declared.runs.Run.{Run}
use Rattle.nodes.specs.declared.runs.Stopped.{Stopped}
use Rattle.nodes.proofs.Unique.{one_run}
use Rattle.orders.specs.declared.Order.{Order}
use Rattle.reduction.specs.Answers.{Reduces}

pub one_apply : (cap : ℕ) (s u out room : List ℕ) {r q : Result ℕ Refusal} {after other left remaining : List ℕ}
    → (told r, after, left) ≡ apply_of cap s u out room
    → (told q, other, remaining) ≡ apply_of cap s u out room → (r ≡ q) × (after ≡ other) × (left ≡ remaining)
one_apply cap s u out room e k = (
  one_told (ap (λ x. x.0) e) (ap (λ x. x.0) k),
  ap (λ x. x.1) (e ∙ sym k),
  ap (λ x. x.2) (e ∙ sym k),
)

pub one_reduce : (order : Order) (limit cap : ℕ) (s out room : List ℕ) {r q : Result Run Stopped}
    {after other left remaining : List ℕ}
    → Reduces order limit cap s out room r after left → Reduces order limit cap s out room q other remaining
    → (r ≡ q) × (after ≡ other) × (left ≡ remaining)
one_reduce order limit cap s out room e k = (
  one_run (ap (λ x. x.0) e) (ap (λ x. x.0) k),
  ap (λ x. x.1) (e ∙ sym k),
  ap (λ x. x.2) (e ∙ sym k),
)
