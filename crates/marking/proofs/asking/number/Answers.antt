-- `marking::asking::number` meets its contract.
use Rattle.marking.proofs.Digits.{none_read}
use Rattle.marking.proofs.asking.number.Goals as goal

pub loop-digit-init : goal.loop-digit-init
loop-digit-init c = none_read c.args.digits.now
