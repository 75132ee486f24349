-- `reduction::work` meets its contract: two inputs that are loaded are contracted as nodes.
use native.Mathlib.Omega.{arith}
use Rattle.reduction.proofs.ReadInputs.{loaded_asks, at_loaded}
use Rattle.reduction.proofs.work.Goals as goal

pub contract-requires : goal.contract-requires
contract-requires c = grind (arith, loaded_asks)

pub returns-in-Abstraction : goal.returns-in-Abstraction
returns-in-Abstraction c = grind (arith, at_loaded)
