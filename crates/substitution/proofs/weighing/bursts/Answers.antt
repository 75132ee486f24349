-- `substitution::weighing::bursts` meets its contract.
use native.Mathlib.Omega.{arith}
use borrow.Author.Tests.{le-ltb}
use Rattle.substitution.proofs.Bursting.{at_none, argument_asks, at_some}
use Rattle.substitution.proofs.weighing.bursts.Goals as goal

pub overflows-requires : goal.overflows-requires
overflows-requires c = argument_asks (λ e. omega (arith, c.if-deepest-gt0.true, e)) c.requires

pub returns-then-deepest-gt0 : goal.returns-then-deepest-gt0
returns-then-deepest-gt0 c = at_some (λ e. omega (arith, c.if-deepest-gt0.true, e)) c.overflows.ensures

pub returns-else-deepest-gt0 : goal.returns-else-deepest-gt0
returns-else-deepest-gt0 c =
    rw (le-ltb _ _ c.if-deepest-gt0.false) (at_none (omega (arith, c.if-deepest-gt0.false)))
