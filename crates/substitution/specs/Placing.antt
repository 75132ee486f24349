-- What putting an argument in asks and gives.
use Rattle.std.specs.Prelude.{ℕ, ◌+◌, ◌*◌, ◌≤◌, ◌<◌, List, length}
use Rattle.calculus.specs.Term.{Term, nodes, height, greatest_index}
use Rattle.calculus.specs.Bounds.{most_nodes, greatest_number}
use Rattle.calculus.specs.Substitution.{put}
use Rattle.nodes.specs.Store.{Holds, Same}
use Rattle.substitution.specs.Raising.{Made}

-- both nodes are terms, and what the one becomes has room and is within what a node can tell
pub record Placeable (room : List ℕ) (used node depth argument : ℕ) : Type 0 where
  pub term : Term
  pub put_term : Term
  pub holds : Holds room term node
  pub holds_put : Holds room put_term argument
  pub below : node < used
  pub below_put : argument < used
  pub fits : 2 * (used + nodes (put depth put_term term)) ≤ length room
  pub few : used + nodes (put depth put_term term) ≤ 4 * most_nodes
  pub deep : depth + height term ≤ 1022
  pub low : height (put depth put_term term) ≤ 1022
  pub small : greatest_index (put depth put_term term) ≤ greatest_number

-- whatever terms they are, the answer is the one with the other put in; the nodes before are as they were
pub record Places (before : List ℕ) (used node depth argument : ℕ) (r : Made) (after : List ℕ) : Type 0 where
  pub placed : (t a : Term) → Holds before t node → Holds before a argument → Holds after (put depth a t) r.node
  pub below : r.node < r.used
  pub grows : used ≤ r.used
  pub most : (t a : Term) → Holds before t node → Holds before a argument → r.used ≤ used + nodes (put depth a t)
  pub same : Same before after used
