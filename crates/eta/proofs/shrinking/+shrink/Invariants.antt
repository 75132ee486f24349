-- `eta::shrinking::shrink` meets its contract: each kind of node is a law of `Rounds`. Parts have smaller numbers.
use Rattle.eta.proofs.shrinking.+shrink.Given as goal

abbrev pub decreases-shrink : goal.decreases-shrink
decreases-shrink l = l.node
