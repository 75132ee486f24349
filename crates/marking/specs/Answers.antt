-- What the program's work leaves: bytes that stand first in the output, whose rest is unchanged, and their length.
use Rattle.std.specs.Prelude.{ℕ, ◌≡◌, List, length}
use Rattle.calculus.specs.Outcomes.{laid_over}

abbrev pub Lays : (written out : List ℕ) → ℕ → (after : List ℕ) → Type 0
Lays written out r after = ◌≡◌ {A = ℕ × List ℕ} (r, after) (length written, laid_over written out)
