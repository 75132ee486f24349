-- What it is to be finished: steps of an order lead to a term at which none is left.
use Rattle.std.specs.Prelude.{ℕ, ◌≡◌}
use Rattle.std.proofs.Math.Option.{none}
use Rattle.calculus.specs.Term.{Term}
use Rattle.calculus.specs.Orders.{Order, step}
use Rattle.calculus.specs.Ends.{Steps}

pub record Finished (o : Order) (n : ℕ) (t u : Term) : Type 0 where
  pub reached : Steps o n t u
  pub stuck : step o u ≡ none
