-- `engine::joining::rejoin` meets its contract: the node as it was, or a new one, by the laws of `Joins`.
use Rattle.engine.specs.States.{lent, told}
use Rattle.engine.proofs.Joins.{parts_unchanged, application_asks, parts_changed}
use Rattle.engine.proofs.Told.{joined-told}
use Rattle.engine.proofs.joining.rejoin.Goals as goal

pub returns-then-room-whole : goal.returns-then-room-whole
returns-then-room-whole c p stop_is steps depth a l r parts whole_is =
    joined-told p c.args.work.now stop_is
    (parts_unchanged (told p c.args.work.now) parts whole_is c.pair.ensures c.if-room-whole.true)

pub make_application-work-requires : goal.make_application-work-requires
make_application-work-requires c =
    let (_, _, _, _, _, parts, whole_is) = c.requires in
    application_asks (lent c.args.work.now) parts whole_is c.pair.ensures c.if-room-whole.false

pub returns : goal.returns
returns c p stop_is steps depth a l r parts whole_is =
    joined-told p c.args.work.now stop_is
    (parts_changed (told p c.args.work.now) parts whole_is c.pair.ensures c.if-room-whole.false
    c.make_application-work.ensures)
