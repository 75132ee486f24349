-- `engine::run_all` meets its contract: the budget falls whenever the term is made anew.
use Prim.Native.Nat.{◌-◌}
use mathlib.Core.Path.{◌≡◌}
use Rattle.calculus.specs.Term.{Term, nodes}
use Rattle.orders.specs.Orders.{order_of}
use Rattle.engine.specs.States.{standing}
use Rattle.engine.specs.Stepping.{Rooted}
use Rattle.engine.proofs.Stepping.{Compact}
use Rattle.engine.proofs.run_all.Given as goal

abbrev pub invariant-loop-order : goal.invariant-loop-order
invariant-loop-order l =
    (t : Term) → Rooted t l.cap (standing (l.initial.work.used - 1) l.initial.work) l.initial.store → l.initial.work.used ≡ nodes t
    → Compact (order_of l.order) t l.cap (standing (l.initial.work.used - 1) l.initial.work)
    (standing (l.work.used - 1) l.work) l.initial.store l.store

abbrev pub decreases-loop-order : goal.decreases-loop-order
decreases-loop-order l = l.work.budget
