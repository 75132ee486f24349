-- a truth, or a refusal, told in numbers
use Rattle.std.proofs.Common.{ap, ◌∙◌}
use Rattle.term.specs.Answers.{told}
use Rattle.copperjangle.specs.Answers.{reached_in_numbers, truth_in_numbers}
use Rattle.copperjangle.proofs.InNumbers.{truth_cast, case_told}
use Rattle.copperjangle.proofs.telling.AnswerFromResultBoolRefusal.from.Goals as goal

pub returns-in-Ok : goal.returns-in-Ok
unfolding truth_in_numbers
returns-in-Ok c =
    case_told (λ a. truth_in_numbers (told a)) c.in-Ok.is
    (c.given.ensures ∙ ap (reached_in_numbers 0 0) (c.from.ensures ∙ truth_cast c.in-Ok.truth))

pub returns-in-Err : goal.returns-in-Err
unfolding truth_in_numbers
returns-in-Err c = case_told (λ a. truth_in_numbers (told a)) c.in-Err.is c.from-in-Err.ensures
