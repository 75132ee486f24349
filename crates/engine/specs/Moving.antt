-- What making a term anew asks and gives.
use Rattle.std.specs.Prelude.{ℕ, ◌+◌, ◌*◌, ◌-◌, ◌≤◌, ◌<◌, ◌≡◌, List, length, get_or, drop}
use Rattle.calculus.specs.Term.{Term, nodes}
use Rattle.calculus.specs.Bounds.{most_nodes}
use Rattle.nodes.specs.Store.{Holds, Same}

-- the nodes from a base on
abbrev pub from_base : ℕ → List ℕ → List ℕ
from_base base store = drop (2 * base) store

-- the node is the term, before the base, and behind it there is room for its copy
pub record Copiable (t : Term) (store : List ℕ) (node base used : ℕ) : Type 0 where
  pub holds : Holds store t node
  pub below : node < base
  pub fits : 2 * (base + used + nodes t) ≤ length store
  pub small : length store ≤ 8 * most_nodes

-- the last node made, counted from the base, is the term
pub record Copies (t : Term) (before : List ℕ) (base used next : ℕ) (after : List ℕ) : Type 0 where
  pub made : next ≡ used + nodes t
  pub holds : Holds (from_base base after) t (next - 1)
  pub same : Same before after base
  pub kept : Same (from_base base before) (from_base base after) used

-- so many nodes from a base on, and as many before it
pub record Movable (store : List ℕ) (base count : ℕ) : Type 0 where
  pub apart : count ≤ base
  pub fits : 2 * (base + count) ≤ length store
  pub small : length store ≤ 8 * most_nodes

-- the first nodes are those
pub record Moves (before : List ℕ) (base count : ℕ) (after : List ℕ) : Type 0 where
  pub as_long : length after ≡ length before
  pub moved : (k : ℕ) → k < 2 * count → get_or after k 0 ≡ get_or before (2 * base + k) 0
