-- `nodes::load` meets its contract: at each head it is a law of `Loading`. The offset grows at each call.
use Prim.Native.Nat.{◌-◌}
use lib.ListN.{length}
use Rattle.nodes.proofs.+load.Given as goal

abbrev pub decreases-load : goal.decreases-load
decreases-load l = length l.s.now - l.at
