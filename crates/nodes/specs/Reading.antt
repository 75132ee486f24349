-- What reading coded bytes of which nothing is known asks and gives.
use Rattle.std.specs.Prelude.{ℕ, ◌+◌, ◌*◌, ◌-◌, ◌≤◌, ◌<◌, ◌≡◌, List, length, Option, IfSome}
use Rattle.calculus.specs.Term.{Term, nodes, height}
use Rattle.calculus.specs.Bounds.{most_nodes, most_height}
use Rattle.calculus.proofs.Sizes.{size}
use Rattle.term.specs.Surveys.{Stands, Admitted}
use Rattle.nodes.specs.Store.{Holds, Same}

-- the room has as many nodes as there may be in all
pub record Readable (room : List ℕ) (used cap deep : ℕ) : Type 0 where
  pub fits : 2 * cap ≤ length room
  pub few : cap < 4 * most_nodes
  pub begun : used ≤ cap
  pub low : deep ≤ most_height

-- a term that stands at an offset, up to the next, is the last node made
pub record Read (s : List ℕ) (at used deep next made : ℕ) (room : List ℕ) : Type 0 where
  pub term : Term
  pub stands : Stands s at term
  pub passed : next ≡ at + size term
  pub low : height term ≤ deep
  pub count : made ≡ used + nodes term
  pub holds : Holds room term (made - 1)

-- an offset that is answered tells of such a term; in any case the nodes before are as they were
pub record Reads (s : List ℕ) (at : ℕ) (before : List ℕ) (used cap deep : ℕ) (next : Option ℕ) (made : ℕ)
    (after : List ℕ) : Type 0 where
  pub same : Same before after used
  pub grows : used ≤ made
  pub few : made ≤ cap
  pub read : IfSome next (λ next. Read s at used deep next made after)

-- the whole input is a term that 10, 7 and 9 let through, and the last node made
pub record Taken (cap : ℕ) (s : List ℕ) (used made : ℕ) (room : List ℕ) : Type 0 where
  pub input : Admitted cap s
  pub count : made ≡ used + nodes input.term
  pub holds : Holds room input.term (made - 1)
