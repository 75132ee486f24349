-- `words::Cursor::bracketed` meets its contract. The invariant: the digits read so far are the index.
use Prim.Native.Nat.{◌-◌}
use lib.ListN.{length}
use Rattle.words.proofs.Indices.{SoFar}
use Rattle.words.proofs.Cursor.bracketed.Given as goal

abbrev pub invariant-loop-here : goal.invariant-loop-here
invariant-loop-here l = SoFar l.text.bytes.now l.self l.here l.index

abbrev pub decreases-loop-here : goal.decreases-loop-here
decreases-loop-here l = length l.text.bytes.now - l.here.at
