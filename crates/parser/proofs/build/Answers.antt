-- `parser::build` meets its contract: the whole text is one sequence with nothing open.
use Rattle.std.proofs.lemmas.Result.{err_from_is_err_and}
use Rattle.parser.proofs.Answering.{ready-first, works_stopped, works_on}
use Rattle.parser.proofs.build.Goals as goal

pub sequence-requires : goal.sequence-requires
sequence-requires c =
    rw c.new-stack.ensures (ready-first c.requires.0 c.requires.1)

pub returns-in_err-went : goal.returns-in_err-went
returns-in_err-went c =
    let p = err_from_is_err_and c.from_residual.result c.from_residual.ensures.1 in
    rw (p.1, p.2) (works_stopped (rw c.new-stack.ensures at c.sequence.ensures) _ _ c.in_err-went.was)

pub returns : goal.returns
returns c =
    works_on (rw c.new-stack.ensures at c.sequence.ensures) _ c.in_ok-went.was c.save.ensures
