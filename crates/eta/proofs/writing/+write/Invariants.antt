-- `eta::writing::write` meets its contract: at each kind it is a law of `Written`. The node's number falls at a call.
use Rattle.eta.proofs.writing.+write.Given as goal

abbrev pub decreases-write : goal.decreases-write
decreases-write l = l.node
