-- `printer::putting::put_all` meets its contract.
use Rattle.std.proofs.Common.{◌∷◌, [], take, arith}
use Rattle.std.proofs.lemmas.List.{take_more}
use Rattle.calculus.proofs.Putting.{puts_then}
use Rattle.printer.proofs.putting.put_all.Goals as goal

pub loop-byte-preserved : goal.loop-byte-preserved
loop-byte-preserved c =
    rw (take_more c.args.text.now c.loop-byte.byte-index 0 (omega arith))
    (puts_then (take c.loop-byte.byte-index c.args.text.now) (_ ∷ []) c.loop-byte.invariant c.put-place.ensures)
