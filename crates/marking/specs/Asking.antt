-- What the answers about the first line are in the words of `calculus`.
use Rattle.std.specs.Prelude as std
use Rattle.std.proofs.Math.Option.{Option, none, some}
use Rattle.calculus.specs.Program as program
use Rattle.calculus.specs.Program.{job}
use Rattle.term.specs.Notations.{notation_of}
use Rattle.orders.specs.Orders.{order_of}
use Rattle.marking.specs.declared.asking.Job.{Job}

-- an answer's value through a function, if there is one, as an Option of the definitions
abbrev pub said : {A B : Type 0} → (A → B) → std.Option A → Option B
said f std.None = none
said f (std.Some a) = some (f a)

abbrev pub job_of : Job → program.Job
job_of asked = job (order_of asked.order) asked.limit (notation_of asked.notation) asked.text.now
