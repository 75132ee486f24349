-- `scan_words` meets its contract. The invariant: the words of the text are those ahead, after some that were read.
use Prim.Native.Nat.{◌-◌}
use lib.ListN.{length}
use Rattle.term.specs.Notations.{notation_of}
use Rattle.words.proofs.Scanning.{Reached}
use Rattle.words.proofs.judging.scan_words.Given as goal

abbrev pub invariant-loop-text : goal.invariant-loop-text
invariant-loop-text l = Reached (notation_of l.notation) l.text.bytes.now l.here

abbrev pub decreases-loop-text : goal.decreases-loop-text
decreases-loop-text l = length l.text.bytes.now - l.here.at
