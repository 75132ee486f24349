-- `eta::contract_levels` meets its contract: there are as many numbers as the term is high, or 512.
use Rattle.std.proofs.Common.{arith}
use Rattle.eta.proofs.Answering.{more_levels}
use Rattle.eta.proofs.contract_levels.Goals as goal

pub contract_within-requires : goal.contract_within-requires
contract_within-requires c =
    (c.requires.0, more_levels c.requires.1 c.if-height.true, omega arith)

pub contract_within-requires-2 : goal.contract_within-requires-2
contract_within-requires-2 c =
    (c.requires.0, more_levels c.requires.1 c.requires.2, omega arith)
