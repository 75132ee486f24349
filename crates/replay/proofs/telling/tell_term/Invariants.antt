-- Each turn is one byte further or nine.
use Rattle.std.proofs.Common.{length, ◌-◌}
use Rattle.replay.proofs.telling.tell_term.Given as goal

abbrev pub decreases-loop-at : goal.decreases-loop-at
decreases-loop-at g l = length l.s - l.at
