-- `engine::run_all` meets its contract: the budget falls whenever the term is made anew.
use mathlib.Core.Path.{refl}
use Rattle.engine.proofs.Stepping.{begins, at_end, renew_asks, goes_on}
use Rattle.engine.proofs.Comparing.{ne_true}
use Rattle.engine.proofs.run_all.Goals as goal

pub loop-order-init : goal.loop-order-init
loop-order-init c = λ t at are. begins _ at are

pub returns-then-ne : goal.returns-then-ne
returns-then-ne c =
    λ t at are.
    at_end (c.loop-order.invariant t at are) c.run_first-q.ensures (ne_true c.ne.ensures c.if-ne.true)

pub renew-work-requires : goal.renew-work-requires
renew-work-requires c =
    let (t, at, are) = c.requires in
    let (u, rooted) = renew_asks (c.loop-order.invariant t at are) c.run_first-q.ensures in
    (u, _, refl, rooted)

pub loop-order-preserved : goal.loop-order-preserved
loop-order-preserved c =
    λ t at are.
    goes_on (c.loop-order.invariant t at are) c.run_first-q.ensures
    (λ u rooted. c.renew-work.ensures u _ (refl) rooted)
