-- What the comparison of two coded terms finds, for the functions that no other crate sees.
use Rattle.std.specs.Prelude.{ℕ, ◌+◌, ◌≤◌, ◌<◌, ◌≡◌, Bool, true, false, List, Option, Some, None}
use Rattle.calculus.specs.Term.{Term, height}
use Rattle.calculus.specs.Queries.{same}
use Rattle.calculus.proofs.Sizes.{size}
use Rattle.term.specs.Surveys.{Stands, Begins}

-- some term no higher than the room stands at an offset
pub record Low (s : List ℕ) (at room : ℕ) : Type 0 where
  pub begins : Begins s at
  pub low : height begins.term ≤ room
  pub some_room : 0 < room

abbrev pub until_if : Bool → ℕ → Option ℕ
until_if true next = Some next
until_if false next = None

-- an answer is right for whatever terms stand at the offset: whether they are the same, and then where they end
pub record Compares (s u : List ℕ) (at : ℕ) (r : Option ℕ) : Type 0 where
  pub compared : (t v : Term) → Stands s at t → Stands u at v → r ≡ until_if (same t v) (at + size t)
