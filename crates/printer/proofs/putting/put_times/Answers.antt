-- `printer::putting::put_times` meets its contract.
use Rattle.std.proofs.Common.{◌∷◌, [], replicate, sym}
use Rattle.std.proofs.lemmas.List.{replicate-append-replicate}
use Rattle.calculus.proofs.Putting.{puts_then}
use Rattle.printer.proofs.putting.put_times.Goals as goal

pub loop-preserved : goal.loop-preserved
loop-preserved c =
    rw (sym (replicate-append-replicate c.loop.counter 1 c.args.b))
    (puts_then (replicate c.loop.counter c.args.b) (c.args.b ∷ []) c.loop.invariant c.put-place.ensures)
