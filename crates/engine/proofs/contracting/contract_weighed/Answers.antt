-- `engine::contracting::contract_weighed` meets its contract: its calls, and two returns, by laws of `Weighed`.
use native.Mathlib.Omega.{arith}
use mathlib.Core.Path.{refl}
use Rattle.engine.proofs.Contractions.{told_of}
use Rattle.engine.proofs.Weighed.{weigh_asks, at_nodes, put_asks, at_made}
use Rattle.engine.proofs.contracting.contract_weighed.Goals as goal

pub weigh-weight-requires : goal.weigh-weight-requires
weigh-weight-requires c =
    weigh_asks c.requires.2

pub returns-then-most-weight : goal.returns-then-most-weight
returns-then-most-weight c b a can =
    at_nodes can c.weigh-weight.ensures c.if-weight.false (omega arith) c.if-most-weight.true
    (told_of c.stopped-then-most-weight.ensures)

pub put_in-made-requires : goal.put_in-made-requires
put_in-made-requires c =
    put_asks c.requires.2 c.weigh-weight.ensures c.if-weight.false (omega arith) c.if-most-weight.false
    c.if-room-work.false

pub returns : goal.returns
returns c b a can =
    at_made can c.weigh-weight.ensures c.if-weight.false (omega arith) c.if-most-weight.false
    c.if-room-work.false c.put_in-made.ensures refl
