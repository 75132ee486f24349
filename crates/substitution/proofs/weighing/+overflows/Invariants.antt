-- `substitution::weighing::overflows` meets its contract: at each kind a law of `Overflowing`. The node number falls.
use Rattle.substitution.proofs.weighing.+overflows.Given as goal

abbrev pub decreases-overflows : goal.decreases-overflows
decreases-overflows l = l.node
