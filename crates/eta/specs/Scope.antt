-- Which variables may stand among the binders around.
use Rattle.std.specs.Prelude.{ℕ, suc, ◌+◌, ◌≤◌, ◌<◌, List, [], ◌∷◌, length}
use Rattle.calculus.specs.Bounds.{most_height, greatest_number}
use Rattle.eta.specs.Named.{Named, bound, loose, binds, joins}

-- a binder is one of those around
pub data Among (k : ℕ) : List ℕ → Type 0 where
  first : {around : List ℕ} → Among k (k ∷ around)
  later : {m : ℕ} {around : List ℕ} → Among k around → Among k (m ∷ around)

-- above the levels of all binders around, of which the innermost has the greatest
abbrev pub top : List ℕ → ℕ
top [] = 0
top (k ∷ around) = suc k

-- each variable names a binder around it or is free with an index that can be written; levels rise inwards
unfoldable pub Scoped : List ℕ → Named → Type 0
Scoped around (bound k) = Among k around
Scoped around (loose j) = j + length around ≤ greatest_number
Scoped around (binds k b) = (top around ≤ k) × (k < most_height) × Scoped (k ∷ around) b
Scoped around (joins l r) = Scoped around l × Scoped around r
