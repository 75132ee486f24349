-- `printer::gauging::binder_room` meets its contract: the sign, and in classic text a name and a dot.
use Rattle.printer.proofs.TextRoom.{sign-covers, named-covers}
use Rattle.printer.proofs.gauging.binder_room.Goals as goal

pub returns-in-DeBruijn : goal.returns-in-DeBruijn
returns-in-DeBruijn c = sign-covers c.in-DeBruijn.is

pub returns-in-Classic : goal.returns-in-Classic
returns-in-Classic c = named-covers c.in-Classic.is c.name_room.ensures
