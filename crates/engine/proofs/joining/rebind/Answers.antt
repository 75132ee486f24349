-- `engine::joining::rebind` meets its contract: the node as it was, or a new one, by the laws of `Joins`.
use mathlib.Core.Path.{refl}
use Rattle.engine.proofs.Joins.{body_unchanged, abstraction_asks}
use Rattle.engine.proofs.Told.{joined-told}
use Rattle.engine.proofs.joining.rebind.Goals as goal

pub returns-then-room-whole : goal.returns-then-room-whole
returns-then-room-whole c steps depth a b body whole_is =
    joined-told c.args.answer c.args.work.now refl (body_unchanged body whole_is c.if-room-whole.true)

pub make_abstraction-work-requires : goal.make_abstraction-work-requires
make_abstraction-work-requires c =
    let (_, _, _, _, body, whole_is) = c.requires in
    abstraction_asks body whole_is c.if-room-whole.false
