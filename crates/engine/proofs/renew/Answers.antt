-- `engine::renew` meets its contract: the term is copied behind the nodes and moved down.
use Rattle.engine.proofs.Stepping.{renewed}
use Rattle.engine.proofs.renew.Goals as goal

pub returns : goal.returns
returns c =
    λ t s is at. renewed at is c.copy-used.ensures c.move_down.ensures
