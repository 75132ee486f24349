-- `printer::putting::put_times` meets its contract.
use Rattle.std.proofs.Common.{replicate}
use Rattle.calculus.proofs.Putting.{Puts}
use Rattle.printer.proofs.putting.put_times.Given as goal

abbrev pub invariant-loop : goal.invariant-loop
invariant-loop l = Puts l.initial.out l.to (replicate l.counter l.b) l.place l.out
