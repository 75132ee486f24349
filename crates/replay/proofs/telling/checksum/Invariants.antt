-- Both sums stay below the modulus.
use Rattle.std.proofs.Common.{◌<◌}
use Rattle.replay.proofs.telling.checksum.Given as goal

abbrev pub invariant-loop-b : goal.invariant-loop-b
invariant-loop-b l = (l.low < 65521) × (l.high < 65521)
