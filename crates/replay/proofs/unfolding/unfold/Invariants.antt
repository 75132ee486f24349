-- The place is within the work, and each turn leaves less of the line.
use Rattle.std.proofs.Common.{length, ◌≤◌}
use Rattle.replay.proofs.unfolding.unfold.Given as goal

abbrev pub invariant-loop-b : goal.invariant-loop-b
invariant-loop-b l = l.to ≤ length l.work

abbrev pub decreases-loop-b : goal.decreases-loop-b
decreases-loop-b l = length l.left
