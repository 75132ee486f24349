-- `printer::pieces::figures_needed` meets its contract: the leading zeros tell the highest set bit.
use Rattle.printer.proofs.Figures.{figures_by_zeros}
use Rattle.printer.proofs.pieces.figures_needed.Goals as goal

pub returns : goal.returns
returns c = figures_by_zeros c.args.index c.requires c.ranges.index.fits
