-- `eta::work` meets its contract: the input is checked first.
use mathlib.Core.Path.{refl}
use Rattle.std.proofs.lemmas.Result.{err_from_is_err_and}
use Rattle.calculus.proofs.Coding.{AllBytes}
use Rattle.term.proofs.Checking.{check-refused}
use Rattle.nodes.proofs.Ending.{input_refused}
use Rattle.eta.proofs.Answering.{checked-levels}
use Rattle.eta.proofs.work.Goals as goal
use Rattle.eta.proofs.work.Goals.{In_ok-facts}

bytes : (c : In_ok-facts) → AllBytes c.args.s.now
bytes c i = (c.type_inv.s i).fits

pub contract_levels-requires : goal.contract_levels-requires
contract_levels-requires c =
    let (enough, low) = checked-levels _ _ c.check.ensures (bytes (goal.at.contract_levels-requires c).In_ok-facts) c.in_ok-facts.was in
    (c.requires, enough, low)

pub returns-in_err-facts : goal.returns-in_err-facts
returns-in_err-facts c =
    let p = err_from_is_err_and c.from_residual.result c.from_residual.ensures.1 in
    rw (p.1, p.2) (input_refused _ _ _ _ refl (check-refused _ _ c.check.ensures c.in_err-facts.was))
