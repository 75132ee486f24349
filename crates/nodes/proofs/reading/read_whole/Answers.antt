-- `nodes::reading::read_whole` meets its contract: what was read up to the end is the input's term.
use Rattle.calculus.proofs.Coding.{AllBytes}
use Rattle.nodes.proofs.Taking.{whole-read}
use Rattle.nodes.proofs.reading.read_whole.Goals as goal
use Rattle.nodes.proofs.reading.read_whole.Goals.{Then-next-s}

bytes : (c : Then-next-s) → AllBytes c.args.s.now
bytes c i = (c.type_inv.s i).fits

pub returns-then-next-s-clause-taken : goal.returns-then-next-s-clause-taken
returns-then-next-s-clause-taken c =
    whole-read (bytes (goal.at.returns-then-next-s-clause-taken c).Then-next-s) (rw c.in_ok-next.was at c.read.ensures)
    c.if-next-s.true
