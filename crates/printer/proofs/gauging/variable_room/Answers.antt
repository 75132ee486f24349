-- `printer::gauging::variable_room` meets its contract: an index, or index 0, a bound name or a free one.
use Rattle.printer.proofs.TextRoom.{index-covers, undefined_covers, name-covers, free_covers}
use Rattle.printer.proofs.gauging.variable_room.Goals as goal

pub returns-then-index-eq0 : goal.returns-then-index-eq0
returns-then-index-eq0 c = undefined_covers c.in-Classic.is c.if-index-eq0.true

pub returns-in-DeBruijn : goal.returns-in-DeBruijn
returns-in-DeBruijn c = index-covers c.in-DeBruijn.is c.index_room.ensures

pub returns-then-index-depth : goal.returns-then-index-depth
returns-then-index-depth c =
    name-covers c.in-Classic.is c.if-index-eq0.false c.if-index-depth.true
    c.name_room.ensures

pub returns-else-index-depth : goal.returns-else-index-depth
returns-else-index-depth c = free_covers c.in-Classic.is c.if-index-depth.false
