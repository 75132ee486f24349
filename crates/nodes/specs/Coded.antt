-- What loading a term from coded bytes, and saving one to them, ask and give.
use Rattle.std.specs.Prelude.{ℕ, ◌+◌, ◌*◌, ◌-◌, ◌≤◌, ◌<◌, ◌≡◌, List, length}
use Rattle.calculus.specs.Term.{Term, nodes, height}
use Rattle.calculus.specs.Bounds.{most_nodes, most_height}
use Rattle.calculus.specs.Bytes.{encode}
use Rattle.calculus.proofs.Sizes.{size}
use Rattle.calculus.proofs.Putting.{Puts}
use Rattle.term.specs.Surveys.{Stands}
use Rattle.nodes.specs.Store.{Holds, Same}
use Rattle.nodes.specs.declared.Loaded.{Loaded}

-- some term within the bounds stands at an offset, and the room has its nodes left
pub record Loadable (s : List ℕ) (at : ℕ) (room : List ℕ) (used : ℕ) : Type 0 where
  pub term : Term
  pub stands : Stands s at term
  pub inside : at < length s
  pub few : used + nodes term < 4 * most_nodes
  pub fits : 2 * (used + nodes term) ≤ length room
  pub low : height term ≤ most_height

-- whatever stands there is the last node made, and the nodes before are as they were
pub record Loads (s : List ℕ) (at : ℕ) (before : List ℕ) (used : ℕ) (r : Loaded) (after : List ℕ) : Type 0 where
  pub loaded : (t : Term) → Stands s at t → Holds after t (r.used - 1)
  pub made : (t : Term) → Stands s at t → r.used ≡ used + nodes t
  pub passed : (t : Term) → Stands s at t → r.next ≡ at + size t
  pub same : Same before after used

-- a node is some term whose bytes fit the output at a place
pub record Savable (room : List ℕ) (node : ℕ) (out : List ℕ) (at : ℕ) : Type 0 where
  pub term : Term
  pub holds : Holds room term node
  pub inside : 2 * node + 2 ≤ length room
  pub fits : at + size term ≤ length out

-- whatever term the node is, its bytes are put there
pub record Saves (room : List ℕ) (node : ℕ) (before : List ℕ) (at to : ℕ) (after : List ℕ) : Type 0 where
  pub saved : (t : Term) → Holds room t node → Puts before at (encode t) to after
