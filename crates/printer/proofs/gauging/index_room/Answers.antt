-- `printer::gauging::index_room` meets its contract: index 0, one digit, or digits in brackets.
use mathlib.Core.Path.{ap}
use native.Mathlib.Omega.{arith}
use lib.ListN.{length}
use Rattle.printer.proofs.Figures.{index-zero, index_one_digit, brackets_length}
use Rattle.printer.proofs.gauging.index_room.Goals as goal

pub returns-then-index-eq0 : goal.returns-then-index-eq0
returns-then-index-eq0 c = (rw c.if-index-eq0.true (omega (arith, ap length index-zero)), omega arith)

pub returns-then-index-lt16 : goal.returns-then-index-lt16
returns-then-index-lt16 c =
    let text = index_one_digit c.args.index c.if-index-eq0.false c.if-index-lt16.true in
    (omega (arith, ap length text), omega arith)

pub returns-else-index-lt16 : goal.returns-else-index-lt16
returns-else-index-lt16 c =
    let found = c.figures_needed-bracketed in
    let (few, all) = found.ensures in
    let text = brackets_length c.args.index found.result c.if-index-lt16.false all in
    (omega (arith, text), omega arith)
