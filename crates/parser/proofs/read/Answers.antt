-- `parser::read` meets its contract: 3 to 5 are judged first.
use Rattle.std.proofs.lemmas.Result.{err_from_is_err_and}
use Rattle.parser.proofs.Answering.{is-valid, works-text, works-refused}
use Rattle.parser.proofs.read.Goals as goal

pub returns-in_err-clean : goal.returns-in_err-clean
returns-in_err-clean c =
    let p = err_from_is_err_and c.from_residual.result c.from_residual.ensures.1 in
    rw (p.1, p.2) (works-refused _ _ _ _ _ _ (rw c.in_err-clean.was at c.judge.ensures))

pub build-requires : goal.build-requires
build-requires c =
    (c.requires, is-valid _ _ (rw c.in_ok-clean.was at c.judge.ensures))

pub returns : goal.returns
returns c =
    works-text _ _ _ _ _ (rw c.in_ok-clean.was at c.judge.ensures) c.build.ensures
