-- ONE OUTCOME: any two outcomes that the statement of `eta` allows are the same, both buffers included.
use Prim.Native.Nat.{ℕ}
use mathlib.Core.Path.{◌≡◌, sym, ap, ◌∙◌}
use mathlib.Core.List.{List}
use Rattle.calculus.specs.Outcomes.{eta_of}
use Rattle.nodes.specs.Answers.{run_told}
use Rattle.std.specs.Prelude.{Result}
use Rattle.nodes.specs.declared.runs.Run.{Run}
use Rattle.nodes.specs.declared.runs.Stopped.{Stopped}
use Rattle.nodes.proofs.Unique.{one_run}

pub one_eta : (limit cap : ℕ) (s out room : List ℕ) {r q : Result Run Stopped} {after other left remaining : List ℕ}
    → (run_told r, after, left) ≡ eta_of limit cap s out room
    → (run_told q, other, remaining) ≡ eta_of limit cap s out room → (r ≡ q) × (after ≡ other) × (left ≡ remaining)
one_eta limit cap s out room e k = (
  one_run (ap (λ x. x.0) e) (ap (λ x. x.0) k),
  ap (λ x. x.1) (e ∙ sym k),
  ap (λ x. x.2) (e ∙ sym k),
)
