-- `eta::shrinking::rebind` meets its contract.
use Rattle.eta.proofs.Remaking.{rebind-done}
use Rattle.eta.proofs.shrinking.rebind.Goals as goal

pub returns : goal.returns
returns c = rebind-done c.requires c.kept_or_put.ensures
