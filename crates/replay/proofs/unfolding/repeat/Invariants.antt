-- Both places are within the work.
use Rattle.std.proofs.Common.{length, ◌≤◌}
use Rattle.replay.proofs.unfolding.repeat.Given as goal

abbrev pub invariant-loop : goal.invariant-loop
invariant-loop l = (l.end ≤ length l.work) × (l.to ≤ length l.work)

abbrev pub invariant-loop-at : goal.invariant-loop-at
invariant-loop-at l = (l.end ≤ length l.work) × (l.to ≤ length l.work)
