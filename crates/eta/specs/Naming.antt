-- What loading a term from coded bytes as a named one asks and gives.
use Rattle.std.specs.Prelude.{ℕ, ◌+◌, ◌*◌, ◌-◌, ◌≤◌, ◌<◌, ◌≡◌, List, length, get_or}
use Rattle.calculus.specs.Term.{Term, nodes, height}
use Rattle.calculus.specs.Bounds.{most_nodes, most_height}
use Rattle.calculus.proofs.Sizes.{size}
use Rattle.term.specs.Surveys.{Stands}
use Rattle.nodes.specs.Store.{Same}
use Rattle.eta.specs.Named.{Named, named, uses, has_zero}
use Rattle.eta.specs.Store.{Names}
use Rattle.eta.specs.declared.naming.Read.{Read}

-- how often each binder around was named: below the depth, what is named is added
pub record Counts (before after : List ℕ) (depth : ℕ) (t : Named) : Type 0 where
  pub as_long : length after ≡ length before
  pub added : (k : ℕ) → k < depth → get_or after k 0 ≡ get_or before k 0 + uses k t

-- no count can grow too great
pub record Countable (counts : List ℕ) (depth more : ℕ) : Type 0 where
  pub long : depth ≤ length counts
  pub few : (k : ℕ) → k < depth → get_or counts k 0 + more ≤ 4 * most_nodes

-- some term stands at an offset, and there is room for its nodes and its counts
pub record Nameable (s : List ℕ) (at : ℕ) (room : List ℕ) (used : ℕ) (counts : List ℕ) (depth : ℕ) : Type 0 where
  pub term : Term
  pub stands : Stands s at term
  pub inside : at < length s
  pub fits : 2 * (used + nodes term) ≤ length room
  pub few : used + nodes term ≤ 2 * most_nodes
  pub low : depth + height term ≤ most_height
  pub deep : depth + height term ≤ length counts
  pub countable : Countable counts depth (nodes term)

-- whatever stands there is the last node made, by its names, and the nodes before are as they were
pub record Reads (s : List ℕ) (at : ℕ) (before : List ℕ) (used : ℕ) (counts : List ℕ) (depth : ℕ) (r : Read)
    (after counts' : List ℕ) : Type 0 where
  pub names : (t : Term) → Stands s at t → Names after (named depth t) (r.used - 1)
  pub made : (t : Term) → Stands s at t → r.used ≡ used + nodes t
  pub passed : (t : Term) → Stands s at t → r.next ≡ at + size t
  pub zero : (t : Term) → Stands s at t → r.zero ≡ has_zero (named depth t)
  pub counted : (t : Term) → Stands s at t → Counts counts counts' depth (named depth t)
  pub same : Same before after used
