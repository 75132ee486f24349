-- What `reduce` promises of a call.
use Rattle.std.specs.Prelude.{ℕ, ◌≡◌, List, Result}
use Rattle.calculus.specs.Outcomes.{reduce_of}
use Rattle.nodes.specs.Answers.{run_told}
use Rattle.nodes.specs.declared.runs.Run.{Run}
use Rattle.nodes.specs.declared.runs.Stopped.{Stopped}
use Rattle.orders.specs.Orders.{order_of}
use Rattle.orders.specs.declared.Order.{Order}

-- its answer, and what it leaves in the output and the work room, are those of the definition
abbrev pub Reduces : Order → (limit cap : ℕ) (s out room : List ℕ) → Result Run Stopped → (after left : List ℕ) → Type 0
Reduces order limit cap s out room r after left =
    (run_told r, after, left) ≡ reduce_of (order_of order) limit cap s out room
