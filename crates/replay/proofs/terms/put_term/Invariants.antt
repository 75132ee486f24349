-- The place is within the room, and each turn leaves fewer marks.
use Rattle.std.proofs.Common.{length, ◌≤◌}
use Rattle.replay.proofs.terms.put_term.Given as goal

abbrev pub invariant-loop-mark : goal.invariant-loop-mark
invariant-loop-mark l = (l.initial.to ≤ l.to) × (l.to ≤ length l.free)

abbrev pub decreases-loop-mark : goal.decreases-loop-mark
decreases-loop-mark l = length l.left
