-- `substitution::raise` meets its contract: at each kind it is a law of `Raised`. The node number falls at each call.
use Rattle.substitution.proofs.+raise.Given as goal

abbrev pub decreases-raise : goal.decreases-raise
decreases-raise l = l.node
