-- `parser::sequences::sequence` and `group` meet their contracts, each turn by a law. The text that remains falls.
use Prim.Native.Nat.{◌+◌, ◌*◌, ◌-◌}
use lib.ListN.{length}
use Rattle.term.specs.Notations.{notation_of}
use Rattle.parser.proofs.Turns.{SoFar}
use Rattle.parser.proofs.sequences.+group_sequence.Given as goal

abbrev pub decreases-group : goal.decreases-group
decreases-group l = 2 * (length l.text.bytes.now - l.from.at) + 1

abbrev pub decreases-sequence : goal.decreases-sequence
decreases-sequence l = 2 * (length l.text.bytes.now - l.from.at)

abbrev pub invariant-sequence-loop-token : goal.invariant-sequence-loop-token
invariant-sequence-loop-token l =
    SoFar (notation_of l.notation) l.text.bytes.now l.initial.stack l.initial.store l.cap l.initial.here l.base l.stack l.store l.here l.read

abbrev pub decreases-sequence-loop-token : goal.decreases-sequence-loop-token
decreases-sequence-loop-token l = length l.text.bytes.now - l.here.at
