-- What raising the free indices of a node's term asks and gives.
use Rattle.std.specs.Prelude.{ℕ, ◌+◌, ◌*◌, ◌-◌, ◌≤◌, ◌<◌, cond, List, ltb, length}
use Rattle.calculus.specs.Term.{Term, nodes, height, greatest_index}
use Rattle.calculus.specs.Bounds.{most_nodes, greatest_number}
use Rattle.calculus.specs.Substitution.{raise}
use Rattle.nodes.specs.Packing.{free_in}
use Rattle.nodes.specs.Store.{Holds, Same}

-- a first number once free indices are raised: the bound on them, and nothing else, moves, to 1023 at most
abbrev pub lifted : (w amount : ℕ) → ℕ
lifted w amount = w + 1073741824 * cond (ltb (free_in w + amount) 1023) amount (1023 - free_in w)

-- the node that a term is, and the number of the next node
pub record Made : Type 0 where
  pub node : ℕ
  pub used : ℕ

abbrev pub made : (node used : ℕ) → Made
made node used = record { node = node; used = used }

-- the node is some term that has room to be copied, and none of its indices is raised past the greatest number
pub record Raisable (room : List ℕ) (used node amount depth : ℕ) : Type 0 where
  pub term : Term
  pub holds : Holds room term node
  pub below : node < used
  pub fits : 2 * (used + nodes term) ≤ length room
  pub few : used + nodes term ≤ 4 * most_nodes
  pub deep : depth + height term ≤ 1022
  pub small : greatest_index (raise amount depth term) ≤ greatest_number
  pub little : amount ≤ 1022

-- whatever term it is, the answer is that term raised; the nodes before are as they were
pub record Raises (before : List ℕ) (used node amount depth : ℕ) (r : Made) (after : List ℕ) : Type 0 where
  pub raised : (t : Term) → Holds before t node → Holds after (raise amount depth t) r.node
  pub below : r.node < r.used
  pub grows : used ≤ r.used
  pub most : (t : Term) → Holds before t node → r.used ≤ used + nodes t
  pub same : Same before after used
