-- `nodes::reading::load_checked` meets its contract: an input that is not read at once is checked, then loaded.
use native.Mathlib.Omega.{arith}
use Rattle.std.proofs.lemmas.Result.{err_from_is_err_and}
use Rattle.calculus.proofs.Coding.{AllBytes}
use Rattle.term.specs.Surveys.{Admitted}
use Rattle.term.proofs.Checking.{check_admits, check-refused}
use Rattle.nodes.proofs.Taking.{input_asks, loaded-taken}
use Rattle.nodes.proofs.reading.load_checked.Goals as goal
use Rattle.nodes.proofs.reading.load_checked.Goals.{In_ok-check}

bytes : (c : In_ok-check) → AllBytes c.args.s.now
bytes c i = (c.type_inv.s i).fits

-- what the check lets through
admitted : (c : In_ok-check) → Admitted c.args.cap c.args.s.now
admitted c = check_admits _ _ c.check.ensures (bytes c) c.in_ok-check.was

pub returns-in_err-check-clause-refuses : goal.returns-in_err-check-clause-refuses
returns-in_err-check-clause-refuses c =
    let p = err_from_is_err_and c.from_residual.result c.from_residual.ensures.1 in
    rw (p.1, p.2) (check-refused _ _ c.check.ensures c.in_err-check.was)

pub load-requires : goal.load-requires
load-requires c =
    let long = c.read_whole.ensures.same.as_long in
    input_asks (admitted (goal.at.load-requires c).In_ok-check) c.requires.0 (omega (arith, c.requires.1))

pub returns-clause-taken : goal.returns-clause-taken
returns-clause-taken c = loaded-taken (admitted (goal.at.returns-clause-taken c).In_ok-check) c.load.ensures
