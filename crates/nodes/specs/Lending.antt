-- What a call may do with what is lent to it, once 1 and 2 let it pass.
use Rattle.std.specs.Prelude.{ℕ, ◌*◌, ◌≤◌, ◌≡◌, List, length}
use Rattle.calculus.specs.Bounds.{most_nodes, output_per_node, room_per_node}

-- the store is the room's first numbers
pub record Lent (cap : ℕ) (out store : List ℕ) : Type 0 where
  pub in_bounds : cap ≤ most_nodes
  pub output : output_per_node * cap ≤ length out
  pub room : length store ≡ room_per_node * cap
