-- Which terms a notation reads back from their text.
use Rattle.std.specs.Prelude.{ℕ, ◌≤◌, ◌≡◌, false}
use Rattle.calculus.specs.Term.{Term, greatest_index}
use Rattle.calculus.specs.Bounds.{greatest_number}
use Rattle.calculus.specs.Queries.{has_free}
use Rattle.calculus.specs.Reading.{Notation, de_bruijn, classic}

-- under d abstractions: terms with indices of 64 bits; terms with neither a free variable nor index 0
abbrev pub Readable : Notation → (d : ℕ) → Term → Type 0
Readable de_bruijn d t = greatest_index t ≤ greatest_number
Readable classic d t = has_free d t ≡ false
