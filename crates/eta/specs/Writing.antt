-- What writing the bytes of a named term asks and gives.
use Rattle.std.specs.Prelude.{ℕ, ◌+◌, ◌*◌, ◌≤◌, ◌<◌, ◌≡◌, List, length, get_or}
use Rattle.calculus.specs.Term.{height}
use Rattle.calculus.specs.Bounds.{most_height}
use Rattle.calculus.specs.Bytes.{encode}
use Rattle.calculus.proofs.Sizes.{size}
use Rattle.calculus.proofs.Putting.{Puts}
use Rattle.eta.specs.Named.{Named, place, plain, rise}
use Rattle.eta.specs.Scope.{Among, top, Scoped}
use Rattle.eta.specs.Store.{Names}

-- at the level of each binder around stands how many binders are around it; the innermost has the greatest level
pub record Placed (places around : List ℕ) : Type 0 where
  pub rising : (k : ℕ) → Among k around → k < top around
  pub low : top around ≤ length places
  pub placed : (k : ℕ) → Among k around → get_or places k 0 + place k around ≡ length around

-- a node that is some named term among binders, whose bytes fit the output
pub record Writable (room : List ℕ) (node : ℕ) (out : List ℕ) (at : ℕ) (places : List ℕ) (depth : ℕ) : Type 0 where
  pub term : Named
  pub around : List ℕ
  pub names : Names room term node
  pub inside : 2 * node + 2 ≤ length room
  pub scoped : Scoped around term
  pub deep : length around ≡ depth
  pub low : depth + height (plain around term) ≤ most_height
  pub placed : Placed places around
  pub levels : rise term ≤ length places
  pub fits : at + size (plain around term) ≤ length out

-- whatever it is, among whatever binders, its bytes are put there, and what stood for the binders around is kept
pub record Writes (room : List ℕ) (node : ℕ) (before : List ℕ) (at : ℕ) (places : List ℕ) (depth to : ℕ)
    (after places' : List ℕ) : Type 0 where
  pub written : (t : Named) (around : List ℕ) → Names room t node → Scoped around t → length around ≡ depth
      → Placed places around
      → Puts before at (encode (plain around t)) to after
  pub kept : (t : Named) (around : List ℕ) → Names room t node → Scoped around t → (k : ℕ) → k < top around
      → get_or places' k 0 ≡ get_or places k 0
  pub as_long : length places' ≡ length places
