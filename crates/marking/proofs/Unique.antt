-- ONE OUTCOME: any two outcomes that the statement of `mark` allows are the same, the output included.
use Prim.Native.Nat.{ℕ}
use mathlib.Core.Path.{◌≡◌, sym, ap, ◌∙◌}
use mathlib.Core.List.{List}
use Rattle.calculus.specs.Program.{program_of}
use Rattle.marking.specs.Answers.{Lays}

pub one_mark : (input out : List ℕ) {r q : ℕ} {after other : List ℕ} → Lays (program_of input) out r after
    → Lays (program_of input) out q other
    → (r ≡ q) × (after ≡ other)
one_mark input out e k = (ap (λ x. x.0) (e ∙ sym k), ap (λ x. x.1) (e ∙ sym k))
