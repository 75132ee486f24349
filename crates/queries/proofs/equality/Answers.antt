-- `queries::equality` meets its contract: the first input's refusal, the second's, or what the walk finds.
use Rattle.std.proofs.Common.{ap, ◌∙◌}
use Rattle.calculus.specs.Refusal.{given}
use Rattle.queries.proofs.Comparing.{whole-low, refuses-first, refuses-second, answers}
use Rattle.queries.proofs.equality.Goals as goal

pub returns-in_err-check : goal.returns-in_err-check
returns-in_err-check c =
    refuses-first c.args.s.now c.args.u.now c.check.ensures _ c.from_residual.ensures.1 c.in_err-check.was

pub returns-in_err-check-2 : goal.returns-in_err-check-2
returns-in_err-check-2 c =
    refuses-second c.args.s.now c.args.u.now c.check.ensures c.in_ok-check.was c.check-2.ensures _
    c.from_residual-in_err-check-2.ensures.1 c.in_err-check-2.was

pub same_at-requires-clause-low : goal.same_at-requires-clause-low
same_at-requires-clause-low c = whole-low _ (λ i. (c.type_inv.s i).fits) c.check.ensures c.in_ok-check.was

pub same_at-requires-clause-begins : goal.same_at-requires-clause-begins
same_at-requires-clause-begins c =
    (whole-low _ (λ i. (c.type_inv.u i).fits) c.check-2.ensures c.in_ok-check-2.was).begins

pub returns : goal.returns
returns c =
    ap given c.is_some.ensures
    ∙ answers c.args.s.now c.args.u.now c.check.ensures c.in_ok-check.was c.check-2.ensures c.in_ok-check-2.was
    (λ i. (c.type_inv.s i).fits) (λ i. (c.type_inv.u i).fits) c.same_at.ensures
