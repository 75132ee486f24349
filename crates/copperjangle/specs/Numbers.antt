-- Which notation and which order a number names.
use Rattle.std.specs.Prelude.{ℕ, zero, suc, List, [], ◌∷◌}
use Rattle.std.proofs.Math.Option.{Option, none, some}
use Rattle.calculus.specs.Orders.{Order, NOR, CBN, HSP, HNO, APP, CBV, HAP}
use Rattle.calculus.specs.Reading.{Notation, de_bruijn, classic}

-- the entry of a list that a number names, from 0 on
abbrev pub numbered : {A : Type 0} → List A → ℕ → Option A
numbered [] n = none
numbered (x ∷ xs) zero = some x
numbered (x ∷ xs) (suc n) = numbered xs n

abbrev pub notations : List Notation
notations = de_bruijn ∷ classic ∷ []

abbrev pub orders : List Order
orders = NOR ∷ CBN ∷ HSP ∷ HNO ∷ APP ∷ CBV ∷ HAP ∷ []
