-- `nodes::reading::read` meets its contract: at each `return` it is a law of `Taking`. The height falls at each call.
use Rattle.nodes.proofs.reading.+read.Given as goal

abbrev pub decreases-read : goal.decreases-read
decreases-read l = l.height
