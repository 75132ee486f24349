-- `queries::is_supercombinator` meets its contract: the same refusal, or the opposite truth.
use Rattle.queries.proofs.Asking.{opposite_refused, opposite_given}
use Rattle.queries.proofs.is_supercombinator.Goals as goal

pub returns-in_err-has_free_variables : goal.returns-in_err-has_free_variables
returns-in_err-has_free_variables c =
    opposite_refused _ c.has_free_variables.ensures _ c.from_residual.ensures.1 c.in_err-has_free_variables.was

pub returns : goal.returns
returns c = opposite_given _ c.has_free_variables.ensures c.in_ok-has_free_variables.was
