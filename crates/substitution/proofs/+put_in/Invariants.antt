-- `substitution::put_in` meets its contract: at each kind it is a law of `Placed`. The node number falls at each call.
use Rattle.substitution.proofs.+put_in.Given as goal

abbrev pub decreases-put_in : goal.decreases-put_in
decreases-put_in l = l.node
