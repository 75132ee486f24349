-- `engine::contracting::contract_at_once` meets its contract: each return by a law of `AtOnce`.
use mathlib.Core.Path.{refl}
use Rattle.engine.proofs.Contractions.{told_of, put_asks}
use Rattle.engine.proofs.AtOnce.{made_high, made-many, made-here}
use Rattle.engine.proofs.contracting.contract_at_once.Goals as goal

pub put_in-made-requires : goal.put_in-made-requires
put_in-made-requires c =
    put_asks c.requires.2

pub returns-then-depth-height_of-gt-MOST_HEIGHT : goal.returns-then-depth-height_of-gt-MOST_HEIGHT
returns-then-depth-height_of-gt-MOST_HEIGHT c b a sure =
    made_high sure c.put_in-made.ensures c.height_of.ensures c.if-depth-height_of-gt-MOST_HEIGHT.true
    (told_of c.stopped.ensures)

pub returns-then-most-size : goal.returns-then-most-size
returns-then-most-size c b a sure =
    made-many sure c.put_in-made.ensures c.height_of.ensures c.if-depth-height_of-gt-MOST_HEIGHT.false
    c.nodes_of-size.ensures c.if-most-size.true
    (told_of c.stopped-then-most-size.ensures)

pub returns : goal.returns
returns c b a sure =
    made-here sure c.put_in-made.ensures c.height_of.ensures c.if-depth-height_of-gt-MOST_HEIGHT.false
    c.nodes_of-size.ensures c.if-most-size.false
    refl
