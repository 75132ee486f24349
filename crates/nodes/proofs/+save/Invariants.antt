-- `nodes::save` meets its contract: at each kind it is a law of `Saving`. The number of the node falls at each call.
use Rattle.nodes.proofs.Saving.{On}
use Rattle.nodes.proofs.+save.Given as goal

abbrev pub decreases-save : goal.decreases-save
decreases-save l = l.node

abbrev pub invariant-loop-index : goal.invariant-loop-index
invariant-loop-index l = On l.room l.node l.initial.out l.at l.here l.out l.to

abbrev pub decreases-loop-index : goal.decreases-loop-index
decreases-loop-index l = l.here
