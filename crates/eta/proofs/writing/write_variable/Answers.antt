-- `eta::writing::write_variable` meets its contract.
use Rattle.eta.proofs.Written.{variable-put}
use Rattle.eta.proofs.writing.write_variable.Goals as goal

pub returns : goal.returns
returns c = variable-put _ c.put_index.ensures
