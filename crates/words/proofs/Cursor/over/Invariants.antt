-- `words::Cursor::over` meets its contract. The invariant: every character passed is one that the run may hold.
use Prim.Native.Nat.{◌-◌}
use lib.ListN.{length}
use Rattle.words.specs.Runs.{test_of}
use Rattle.words.proofs.Passing.{Passing}
use Rattle.words.proofs.Cursor.over.Given as goal

abbrev pub invariant-loop-here : goal.invariant-loop-here
invariant-loop-here l = Passing l.text.bytes.now (test_of l.run) l.initial.here l.here

abbrev pub decreases-loop-here : goal.decreases-loop-here
decreases-loop-here l = length l.text.bytes.now - l.here.at
