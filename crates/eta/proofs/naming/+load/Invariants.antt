-- `eta::naming::load` meets its contract: at each head it is a law of `Loaded`. The offset grows at each call.
use Prim.Native.Nat.{◌-◌}
use lib.ListN.{length}
use Rattle.eta.proofs.naming.+load.Given as goal

abbrev pub decreases-load : goal.decreases-load
decreases-load l = length l.s.now - l.at
