-- `moving::copy` meets its contract: at each kind it is a law of `Renewing`. The node number falls at each call.
use Rattle.engine.proofs.moving.+copy.Given as goal

abbrev pub decreases-copy : goal.decreases-copy
decreases-copy l = l.node
