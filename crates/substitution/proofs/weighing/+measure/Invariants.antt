-- `substitution::weighing::measure` meets its contract: at each kind it is a law of `Measuring`. The node number falls.
use Rattle.substitution.proofs.weighing.+measure.Given as goal

abbrev pub decreases-measure : goal.decreases-measure
decreases-measure l = l.node
