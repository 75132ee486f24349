-- Each turn leaves less.
use Rattle.std.proofs.Common.{length}
use Rattle.marking_main.proofs.show_answers.Given as goal

abbrev pub decreases-loop-end : goal.decreases-loop-end
decreases-loop-end g l = length l.left
