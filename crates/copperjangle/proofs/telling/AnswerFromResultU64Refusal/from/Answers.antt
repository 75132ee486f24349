-- a number, or a refusal, told in numbers
use Rattle.term.specs.Answers.{told}
use Rattle.copperjangle.specs.Answers.{number_in_numbers}
use Rattle.copperjangle.proofs.InNumbers.{case_told}
use Rattle.copperjangle.proofs.telling.AnswerFromResultU64Refusal.from.Goals as goal

pub returns-in-Ok : goal.returns-in-Ok
unfolding number_in_numbers
returns-in-Ok c = case_told (λ a. number_in_numbers (told a)) c.in-Ok.is c.given.ensures

pub returns-in-Err : goal.returns-in-Err
unfolding number_in_numbers
returns-in-Err c = case_told (λ a. number_in_numbers (told a)) c.in-Err.is c.from.ensures
