-- `printer::gauging::gauge_part` meets its contract: at each head it is a law of `Gauged`. The room falls at each node.
use Rattle.printer.proofs.Gauged.{Onward}
use Rattle.printer.proofs.gauging.+gauge_part.Given as goal

abbrev pub decreases-gauge_part : goal.decreases-gauge_part
decreases-gauge_part l = l.room

abbrev pub invariant-loop-room : goal.invariant-loop-room
invariant-loop-room l =
    Onward l.notation l.s l.initial.at l.initial.depth l.initial.part l.initial.room l.initial.counts l.at l.depth l.part l.room l.counts

abbrev pub decreases-loop-room : goal.decreases-loop-room
decreases-loop-room l = l.room
