-- `printer::write_part` meets its contract: at each head it is a law of `Walking`. The room falls at each call.
use Prim.Native.Nat.{◌-◌}
use lib.ListN.{length}
use Rattle.printer.proofs.Walking.{On}
use Rattle.printer.proofs.+write_part.Given as goal

abbrev pub decreases-write_part : goal.decreases-write_part
decreases-write_part l = l.room

abbrev pub invariant-loop-index : goal.invariant-loop-index
invariant-loop-index l =
    On l.style l.s l.initial.at l.initial.depth l.initial.part l.initial.out l.initial.to l.at l.depth l.part l.closes l.out l.to

abbrev pub decreases-loop-index : goal.decreases-loop-index
decreases-loop-index l = length l.s - l.at
