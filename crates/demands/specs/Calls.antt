-- A call of `reduce`, and all that its contract allows it to answer and leave.
use Rattle.std.specs.Prelude.{ℕ, List, Result, Ok}
use Rattle.nodes.specs.declared.runs.End.TheVariants.{Finished}
use Rattle.nodes.specs.declared.runs.Run.{Run}
use Rattle.nodes.specs.declared.runs.Stopped.{Stopped}
use Rattle.orders.specs.declared.Order.{Order}
use Rattle.reduction.specs.Answers.{Reduces}

-- what a call is lent and given
pub record Asked : Type 0 where
  pub order : Order
  pub limit : ℕ
  pub cap : ℕ
  pub input : List ℕ
  pub out : List ℕ
  pub room : List ℕ

-- what it answers and leaves
pub record Answered (a : Asked) : Type 0 where
  pub run : Result Run Stopped
  pub after : List ℕ
  pub left : List ℕ
  pub promised : Reduces a.order a.limit a.cap a.input a.out a.room run after left

-- the answer that no step is left
abbrev pub finishes : (steps length : ℕ) → Result Run Stopped
finishes steps length = Ok (record { end = Finished; steps = steps; length = length })
