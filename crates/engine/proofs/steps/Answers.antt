-- `engine::steps` meets its contract: each reason to stop is an end of a run.
use Rattle.engine.proofs.Ending.{run_all_asks, budget-left, at_rest, at_limit, at_height, at_nodes, at_index, no_end}
use Rattle.engine.proofs.steps.Goals as goal

pub run_all-end-requires : goal.run_all-end-requires
run_all-end-requires c =
    run_all_asks c.requires.1 _

pub overflow_sub-steps : goal.overflow_sub-steps
overflow_sub-steps c =
    budget-left c.requires.1 c.run_all-end.ensures

pub returns-in-Rested : goal.returns-in-Rested
returns-in-Rested c = λ t can. at_rest can c.run_all-end.ensures c.in-Rested.is

pub returns-in-Spent : goal.returns-in-Spent
returns-in-Spent c = λ t can. at_limit can c.run_all-end.ensures c.in-Spent.is

pub returns-in-TooHigh : goal.returns-in-TooHigh
returns-in-TooHigh c = λ t can. at_height can c.run_all-end.ensures c.in-TooHigh.is

pub returns-in-TooManyNodes : goal.returns-in-TooManyNodes
returns-in-TooManyNodes c = λ t can. at_nodes can c.run_all-end.ensures c.in-TooManyNodes.is

pub returns-in-IndexTooGreat : goal.returns-in-IndexTooGreat
returns-in-IndexTooGreat c = λ t can. at_index can c.run_all-end.ensures c.in-IndexTooGreat.is

pub unreachable-requires : goal.unreachable-requires
unreachable-requires c = no_end c.requires.1 c.run_all-end.ensures c.in-Stepped.is
