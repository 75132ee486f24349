-- `printer::print` meets its contract: a term that one walk knows is printed, and all else is checked.
use Rattle.printer.proofs.Printing.{gauged-printable, printed-gauged}
use Rattle.printer.proofs.print.Goals as goal

pub print_whole-requires : goal.print_whole-requires
print_whole-requires c =
    gauged-printable c.args.notation c.args.s.now c.gauge_whole.ensures c.in-Some.is (λ i. (c.type_inv.s i).fits)

pub returns-in-Some : goal.returns-in-Some
returns-in-Some c =
    printed-gauged c.args.notation c.args.s.now c.gauge_whole.ensures c.in-Some.is (λ i. (c.type_inv.s i).fits)
    c.print_whole.ensures
