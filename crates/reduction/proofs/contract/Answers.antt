-- `reduction::contract` meets its contract: the bytes, by a law of `Contracting`.
use native.Mathlib.Omega.{arith}
use Rattle.reduction.proofs.Contracting.{save_asks, at_result}
use Rattle.reduction.proofs.contract.Goals as goal

pub save-requires : goal.save-requires
save-requires c =
    save_asks c.requires c.weigh-weight.ensures c.if-weight.false (omega arith) c.if-cap-weight.false
    c.put_in-made.ensures

pub returns : goal.returns
returns c =
    at_result c.requires c.weigh-weight.ensures c.if-weight.false (omega arith) c.if-cap-weight.false
    c.put_in-made.ensures c.save.ensures
