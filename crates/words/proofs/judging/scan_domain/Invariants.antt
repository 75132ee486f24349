-- `scan_domain` meets its contract. The invariant: no character before was outside the domain.
use lib.ListN.{length}
use Rattle.words.proofs.Domains.{Passed}
use Rattle.words.proofs.judging.scan_domain.Given as goal

abbrev pub invariant-loop-rest : goal.invariant-loop-rest
invariant-loop-rest l = Passed l.text l.rest

abbrev pub decreases-loop-rest : goal.decreases-loop-rest
decreases-loop-rest l = length l.rest
