-- `From<Result<Run, Stopped>>` of `Answer` gives the run in numbers.
use Rattle.nodes.specs.Answers.{run_told}
use Rattle.copperjangle.specs.Answers.{run_in_numbers}
use Rattle.copperjangle.proofs.InNumbers.{case_told}
use Rattle.copperjangle.proofs.telling.AnswerFromResultRunStopped.from.Goals as goal

pub returns-in-Finished : goal.returns-in-Finished
unfolding run_in_numbers run_told
returns-in-Finished c = rw (c.in-Ok.is, c.in-Finished.is) c.reached.ensures

pub returns-in-Unfinished : goal.returns-in-Unfinished
unfolding run_in_numbers run_told
returns-in-Unfinished c = rw (c.in-Ok.is, c.in-Unfinished.is) c.reached-in-Unfinished.ensures

pub returns-in-Err : goal.returns-in-Err
unfolding run_in_numbers run_told
returns-in-Err c = case_told (λ a. run_in_numbers (run_told a)) c.in-Err.is c.refused.ensures
