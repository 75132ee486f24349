-- `printer::print_whole` meets its contract: 13, or the text.
use Rattle.printer.proofs.Printing.{whole-writable, prints}
use Rattle.printer.proofs.print_whole.Goals as goal

pub write-requires : goal.write-requires
write-requires c = whole-writable c.requires

pub returns : goal.returns
returns c = prints c.ensure_fits.ensures c.in_ok-ensure_fits.was c.write.ensures
