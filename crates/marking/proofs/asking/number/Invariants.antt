-- `marking::asking::number` meets its contract. The invariant: the digits before have been read.
use Rattle.marking.proofs.Digits.{ReadSoFar}
use Rattle.marking.proofs.asking.number.Given as goal

abbrev pub invariant-loop-digit : goal.invariant-loop-digit
invariant-loop-digit l = ReadSoFar l.digits l.digit-index l.value
