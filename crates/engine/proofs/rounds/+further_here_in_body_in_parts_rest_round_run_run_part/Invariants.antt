-- `further` meets its contract: a round where there is no application, else the argument's run and what is left.
-- `here` meets its contract: a contraction is made or is not, or the function part is no abstraction.
-- `in_body` meets its contract: the body is left alone, or its run is that of the abstraction.
-- `in_parts` meets its contract: the spine's run, then that in the argument, and what each comes to.
-- The measures of the cycle: the depth, which rises at each run in a part, and after it the turn of the call.
-- `rest` meets its contract: the function part's run, then that in the argument, and what each comes to.
-- `round` meets its contract, by what the node says of its term.
-- `run` meets its contract: each round goes on from the steps so far. The budget falls.
-- `run_part` meets its contract: no run where the part is at rest.
use Rattle.orders.specs.Orders.{order_of}
use Rattle.engine.specs.States.{standing}
use Prim.Native.Nat.{◌+◌, ◌*◌, ◌-◌}
use Rattle.calculus.specs.Bounds.{most_height}
use Rattle.calculus.specs.Term.{Term}
use Rattle.engine.specs.Running.{started, Ready}
use Rattle.engine.proofs.Runs.{Gone}
use Rattle.engine.proofs.rounds.+further_here_in_body_in_parts_rest_round_run_run_part.Given as goal

abbrev pub decreases-further : goal.decreases-further
decreases-further l = 8 * (most_height - l.depth) + 5

abbrev pub decreases-here : goal.decreases-here
decreases-here l = 8 * (most_height - l.depth) + 2

abbrev pub decreases-in_body : goal.decreases-in_body
decreases-in_body l = 8 * (most_height - l.depth) + 3

abbrev pub decreases-in_parts : goal.decreases-in_parts
decreases-in_parts l = 8 * (most_height - l.depth) + 3

abbrev pub decreases-rest : goal.decreases-rest
decreases-rest l = 8 * (most_height - l.depth) + 1

abbrev pub decreases-round : goal.decreases-round
decreases-round l = 8 * (most_height - l.depth) + 4

abbrev pub decreases-run : goal.decreases-run
decreases-run l = 8 * (most_height - l.depth) + 5

abbrev pub decreases-run_part : goal.decreases-run_part
decreases-run_part l = 8 * (most_height - l.depth) + 6

abbrev pub invariant-run-loop-order : goal.invariant-run-loop-order
invariant-run-loop-order l =
    (u : Term) → Ready u l.initial.room l.depth (standing l.from l.initial.work)
    → Gone (order_of l.order) l.depth (started u (standing l.from l.initial.work) l.initial.room)
    (standing l.node l.work) l.room

abbrev pub decreases-run-loop-order : goal.decreases-run-loop-order
decreases-run-loop-order l = l.work.budget
