-- `printer::putting::put_all` meets its contract.
use Rattle.std.proofs.Common.{take}
use Rattle.calculus.proofs.Putting.{Puts}
use Rattle.printer.proofs.putting.put_all.Given as goal

abbrev pub invariant-loop-byte : goal.invariant-loop-byte
invariant-loop-byte l = Puts l.initial.out l.to (take l.byte-index l.text) l.place l.out
