-- `printer::gauging::name_room` meets its contract: one letter, two, or as many as a name has at most.
use native.Mathlib.Omega.{arith}
use Rattle.printer.proofs.TextRoom.{one_letter, two_letters, most-letters}
use Rattle.printer.proofs.gauging.name_room.Goals as goal

pub returns-then-number-lt26 : goal.returns-then-number-lt26
returns-then-number-lt26 c = (one_letter c.args.number c.if-number-lt26.true, omega arith)

pub returns-then-number-lt702 : goal.returns-then-number-lt702
returns-then-number-lt702 c = (two_letters c.args.number c.if-number-lt26.false c.if-number-lt702.true, omega arith)

pub returns-else-number-lt702 : goal.returns-else-number-lt702
returns-else-number-lt702 c = (most-letters c.args.number, omega arith)
