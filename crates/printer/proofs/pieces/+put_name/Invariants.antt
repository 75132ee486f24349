-- `printer::pieces::put_name` meets its contract: all letters but the last are a call. The letters are the measure, and
-- no number has more than 14 (`shown_name`).
use lib.ListN.{length}
use Rattle.calculus.specs.Writing.{name_text}
use Rattle.printer.proofs.pieces.+put_name.Given as goal

abbrev pub decreases-put_name : goal.decreases-put_name
decreases-put_name l = length (name_text l.number)
