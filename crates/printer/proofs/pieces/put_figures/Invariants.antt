-- `printer::pieces::put_figures` meets its contract.
use Rattle.printer.specs.Pieces.{figures}
use Rattle.calculus.proofs.Putting.{Leaves}
use Rattle.printer.proofs.pieces.put_figures.Given as goal

abbrev pub invariant-loop-left : goal.invariant-loop-left
invariant-loop-left l = Leaves l.initial.out l.to (figures l.count l.index) l.out l.place (figures l.left l.index)
