-- `further` meets its contract: a round where there is no application, else the argument's run and what is left.
-- `here` meets its contract: a contraction is made or is not, or the function part is no abstraction.
-- `in_body` meets its contract: the body is left alone, or its run is that of the abstraction.
-- `in_parts` meets its contract: the spine's run, then that in the argument, and what each comes to.
-- The measures of the cycle: the depth, which rises at each run in a part, and after it the turn of the call.
-- `rest` meets its contract: the function part's run, then that in the argument, and what each comes to.
-- `round` meets its contract, by what the node says of its term.
-- `run` meets its contract: each round goes on from the steps so far. The budget falls.
-- `run_part` meets its contract: no run where the part is at rest.
use Prim.Native.Nat.{ℕ}
use mathlib.Core.Path.{refl, sym, ◌∙◌, ap}
use native.Mathlib.Omega.{arith}
use borrow.Author.Rules.{rules}
use Rattle.orders.specs.Orders.{order_of}
use Rattle.engine.specs.States.{State, standing, told, lent}
use Rattle.engine.proofs.Runs.{turned_about, stays_shut, body_asks, rebind_asks, body-again, stays_normal, stays_variable, abstraction_asks, in_abstraction, application_asks, in_application, none_gone, ready-again, gone_on, gone_last}
use Rattle.engine.proofs.Told.{resting-lent, here-lent, gone_placed}
use Rattle.engine.proofs.AtRest.{at_once}
use Rattle.engine.specs.declared.Stop.TheVariants.{Rested}
use Rattle.engine.proofs.Comparing.{eq_true, eq_false, ne_true, ne_false}
use Rattle.engine.proofs.Places.{FurtherRun, rejoined, forked, as_application, as_it_was, rest_at_once, argument_asks, argument_halts, rest-after, SpineRun, ArgumentRun, spine_halts, spine-here, early_asks, early_halts, early_here, function_asks, function_halts, late_asks, late_halts}
use Rattle.engine.proofs.Redexes.{contract_asks, contracted-ran, contracted_halts, no-abstraction, rest_asks, plain_halts}
use Rattle.calculus.specs.Traits.{eager, late}
use Rattle.engine.proofs.Phases.{begun, left_asks}
use mathlib.Core.Bool.{not}
use Rattle.engine.proofs.rounds.+further_here_in_body_in_parts_rest_round_run_run_part.Goals as goal
use Rattle.engine.proofs.rounds.+further_here_in_body_in_parts_rest_round_run_run_part.Goals.{further-After-further-q, in_parts-After-run_part-p, in_parts-After-run_part-q, rest-After-further-p, rest-After-run_part-q}

-- how the run stands after that in the argument
abbrev further-argued : (t : ℕ) (c : further-After-further-q t) → State
further-argued t c =
    told c.further-q.result c.further-q.new.work

argument-run : (t : ℕ) (c : further-After-further-q t)
    → let a = c.args in
    FurtherRun (order_of a.order) a.depth
    (standing a.whole a.work.now) c.in-Application.right
    a.room.now (further-argued t c) c.further-q.new.room
argument-run t c = record {
  fit = search rules;
  ran = c.further-q.ensures;
}

-- how the run stands after that in the function part, and after that in the argument
abbrev spun : (t : ℕ) (c : in_parts-After-run_part-p t) → State
spun t c =
    told c.run_part-p.result c.run_part-p.new.work

abbrev in_parts-argued : (t : ℕ) (c : in_parts-After-run_part-q t) → State
in_parts-argued t c =
    told c.run_part-q.result c.run_part-q.new.work

spine-run : (t : ℕ) (c : in_parts-After-run_part-p t)
    → let a = c.args in
    SpineRun (order_of a.order) a.depth
    (standing a.whole a.work.now) c.right_of-right.result
    a.room.now (spun t c) c.run_part-p.new.room
spine-run t c =
    record {
      right_is = c.right_of-right.ensures;
      run = record {
        fit = search rules;
        runs = rw (c.spine.ensures, c.left_of.ensures) at c.run_part-p.ensures;
      };
    }

early-run : (t : ℕ) (c : in_parts-After-run_part-q t)
    →
    let a = c.args in
    ArgumentRun (eager (order_of a.order)) (order_of a.order) a.depth (told c.run_part-p.result c.run_part-p.new.work)
    c.right_of-right.result c.run_part-p.new.room (in_parts-argued t c) c.run_part-q.new.room
early-run t c =
    record {
      at_rest = ne_false c.ne.ensures c.if-ne.false;
      on = turned_about c.is_eager.ensures (ap not c.if-not-is_eager.false);
      run = record {
        fit = search rules;
        runs = c.run_part-q.ensures;
      };
    }

-- how the run stands after that in the function part, and after that in the argument
abbrev reduced : (t : ℕ) (c : rest-After-further-p t) → State
reduced t c =
    told c.further-p.result c.further-p.new.work

abbrev rest-argued : (t : ℕ) (c : rest-After-run_part-q t) → State
rest-argued t c =
    told c.run_part-q.result c.run_part-q.new.work

left-run : (t : ℕ) (c : rest-After-further-p t)
    → let a = c.args in
    FurtherRun (order_of a.order) a.depth (lent a.work.now) a.left
    a.room.now (reduced t c) c.further-p.new.room
left-run t c = record {
  fit = search rules;
  ran = c.further-p.ensures;
}

late-run : (t : ℕ) (c : rest-After-run_part-q t)
    →
    let a = c.args in
    ArgumentRun (late (order_of a.order)) (order_of a.order) a.depth (told c.further-p.result c.further-p.new.work) a.right
    c.further-p.new.room (rest-argued t c) c.run_part-q.new.room
late-run t c =
    record {
      at_rest = ne_false c.ne.ensures c.if-ne.false;
      on = turned_about c.is_late.ensures (ap not c.if-not-is_late.false);
      run = record {
        fit = search rules;
        runs = c.run_part-q.ensures;
      };
    }

pub further-returns-then-at_rest : goal.further-returns-then-at_rest
further-returns-then-at_rest t c =
    λ u rested.
    (at_once (c.at_rest.ensures c.if-at_rest.true)).ran u rested.ready

pub further-rest-requires : goal.further-rest-requires
further-rest-requires t c =
    let (u, rested) = c.requires in
    let parts = forked rested c.node_at.ensures c.in-Application.is in
    let fork = as_application rested c.node_at.ensures c.in-Application.is in
    let lazy = turned_about c.is_eager.ensures (ap not c.if-not-is_eager.true) in (
      omega (arith, c.decreases),
      (
        _,
        _,
        _,
        resting-lent (rest_at_once fork parts.left_is parts.right_is lazy),
      ),
    )

pub further-returns-then-not-is_eager : goal.further-returns-then-not-is_eager
further-returns-then-not-is_eager t c =
    let lazy = turned_about c.is_eager.ensures (ap not c.if-not-is_eager.true) in
    λ u rested.
    let parts = forked rested c.node_at.ensures c.in-Application.is in
    let fork = as_application rested c.node_at.ensures c.in-Application.is in
    as_it_was rested c.node_at.ensures c.in-Application.is
    (c.rest.ensures _ _ _ (resting-lent (rest_at_once fork parts.left_is parts.right_is lazy)))

pub further-further-q-requires : goal.further-further-q-requires
further-further-q-requires t c =
    let (u, rested) = c.requires in
    let parts = forked rested c.node_at.ensures c.in-Application.is in
    let fork = as_application rested c.node_at.ensures c.in-Application.is in
    let on = turned_about c.is_eager.ensures (ap not c.if-not-is_eager.false) in
    let asks = argument_asks fork parts.left_is parts.right_is on in
    (omega (arith, c.decreases, asks.ready.deep), (_, asks))

pub further-rejoin-requires : goal.further-rejoin-requires
further-rejoin-requires t c =
    let (u, rested) = c.requires in
    let parts = forked rested c.node_at.ensures c.in-Application.is in
    let fork = as_application rested c.node_at.ensures c.in-Application.is in
    let on = turned_about c.is_eager.ensures (ap not c.if-not-is_eager.false) in
    let halts = argument_halts fork parts.left_is parts.right_is on
    (argument-run t (goal.at.further-rejoin-requires t c).After-further-q)
    (ne_true c.ne.ensures c.if-ne.true) in
    (_, _, _, _, _, halts.parted.parts, refl)

pub further-returns-then-ne : goal.further-returns-then-ne
further-returns-then-ne t c =
    let on = turned_about c.is_eager.ensures (ap not c.if-not-is_eager.false) in
    λ u rested.
    let parts = forked rested c.node_at.ensures c.in-Application.is in
    let fork = as_application rested c.node_at.ensures c.in-Application.is in
    as_it_was rested c.node_at.ensures c.in-Application.is
    (rejoined (argument_halts fork parts.left_is parts.right_is on
    (argument-run t (goal.at.further-returns-then-ne t c).After-further-q)
    (ne_true c.ne.ensures c.if-ne.true)) refl
    (c.rejoin.ensures c.further-q.result
    refl))

pub further-rest-requires-2 : goal.further-rest-requires-2
further-rest-requires-2 t c =
    let (u, rested) = c.requires in
    let parts = forked rested c.node_at.ensures c.in-Application.is in
    let fork = as_application rested c.node_at.ensures c.in-Application.is in
    let on = turned_about c.is_eager.ensures (ap not c.if-not-is_eager.false) in
    let zero = ne_false c.ne.ensures c.if-ne.false in
    let resting = rest-after fork parts.left_is parts.right_is on
    (argument-run t (goal.at.further-rest-requires-2 t c).After-further-q) zero in
    (omega (arith, c.decreases), (_, _, _, resting-lent resting))

pub further-returns : goal.further-returns
further-returns t c =
    let on = turned_about c.is_eager.ensures (ap not c.if-not-is_eager.false) in
    let zero = ne_false c.ne.ensures c.if-ne.false in
    λ u rested.
    let parts = forked rested c.node_at.ensures c.in-Application.is in
    let fork = as_application rested c.node_at.ensures c.in-Application.is in
    let resting = rest-after fork parts.left_is parts.right_is on
    (argument-run t (goal.at.further-returns t c).After-further-q) zero in
    as_it_was rested c.node_at.ensures c.in-Application.is
    (c.rest-2.ensures _ _ _ (resting-lent resting))

pub here-contract-c-requires : goal.here-contract-c-requires
here-contract-c-requires t c =
    contract_asks c.requires.3 c.node_at.ensures c.in-Abstraction.is

pub here-returns-then-eq : goal.here-returns-then-eq
here-returns-then-eq t c =
    λ a l r here.
    contracted-ran here c.node_at.ensures c.in-Abstraction.is c.contract-c.ensures
    (eq_true c.eq.ensures c.if-eq.true)

pub here-rejoin-requires : goal.here-rejoin-requires
here-rejoin-requires t c =
    let here = c.requires.3 in
    let halts = contracted_halts here c.node_at.ensures c.in-Abstraction.is
    c.contract-c.ensures
    (eq_false c.eq.ensures c.if-eq.false) in
    (_, _, _, _, _, halts.parted.parts, here.at_whole)

pub here-returns-in-Abstraction : goal.here-returns-in-Abstraction
here-returns-in-Abstraction t c =
    λ a l r here.
    let halts = contracted_halts here c.node_at.ensures c.in-Abstraction.is
    c.contract-c.ensures
    (eq_false c.eq.ensures c.if-eq.false) in
    rejoined halts here.at_whole (c.rejoin.ensures c.contract-c.result refl)

pub here-rest-requires : goal.here-rest-requires
here-rest-requires t c =
    let here = c.requires.3 in
    let on = sym c.is_hybrid.ensures ∙ c.if-is_hybrid.true in (
      omega (arith, c.decreases),
      (_, _, _, rest_asks here (no-abstraction here c.node_at.ensures c.in_default.not-Abstraction) on),
    )

pub here-returns-then-is_hybrid : goal.here-returns-then-is_hybrid
here-returns-then-is_hybrid t c =
    let on = sym c.is_hybrid.ensures ∙ c.if-is_hybrid.true in
    λ a l r here.
    c.rest.ensures _ _ _ (rest_asks here (no-abstraction here c.node_at.ensures c.in_default.not-Abstraction) on)

pub here-returns : goal.here-returns
here-returns t c =
    let off = sym c.is_hybrid.ensures ∙ c.if-is_hybrid.false in
    λ a l r here.
    let halts = plain_halts here (no-abstraction here c.node_at.ensures c.in_default.not-Abstraction) off in
    rejoined halts here.at_whole (c.rejoin-2.ensures (record { node = 0; stop = Rested }) refl)

pub in_body-returns-then-not-enters_bodies : goal.in_body-returns-then-not-enters_bodies
in_body-returns-then-not-enters_bodies t c =
    λ b ready.
    stays_shut ready (turned_about c.enters_bodies.ensures (ap not c.if-not-enters_bodies.true))

pub in_body-run_part-b-requires : goal.in_body-run_part-b-requires
in_body-run_part-b-requires t c =
    let asks = body_asks c.requires.1 in
    (omega (arith, c.decreases, asks.deep), (_, asks))

pub in_body-rebind-requires : goal.in_body-rebind-requires
in_body-rebind-requires t c =
    (_, _, _, _, rebind_asks c.requires.1 c.run_part-b.ensures, refl)

pub in_body-returns : goal.in_body-returns
in_body-returns t c =
    λ b ready.
    let runs = c.run_part-b.ensures in
    body-again ready runs (turned_about c.enters_bodies.ensures (ap not c.if-not-enters_bodies.false))
    (c.rebind.ensures _ _ _ _ (rebind_asks ready runs) refl)

pub in_parts-run_part-p-requires : goal.in_parts-run_part-p-requires
in_parts-run_part-p-requires t c =
    let (l, r, ready) = c.requires in
    let asks = left_asks (begun (order_of c.args.order) refl refl ready) in
    (omega (arith, c.decreases, asks.deep), (l, rw c.left_of.ensures asks))

pub in_parts-rejoin-requires : goal.in_parts-rejoin-requires
in_parts-rejoin-requires t c =
    let halts = spine_halts c.requires.2 (spine-run t (goal.at.in_parts-rejoin-requires t c).After-run_part-p)
    (ne_true c.ne.ensures c.if-ne.true) in
    (_, _, _, _, _, halts.parted.parts, refl)

pub in_parts-returns-then-ne : goal.in_parts-returns-then-ne
in_parts-returns-then-ne t c =
    λ l r ready.
    rejoined (spine_halts ready (spine-run t (goal.at.in_parts-returns-then-ne t c).After-run_part-p)
    (ne_true c.ne.ensures c.if-ne.true)) refl
    (c.rejoin.ensures c.run_part-p.result
    refl)

pub in_parts-here-requires : goal.in_parts-here-requires
in_parts-here-requires t c =
    let lazy = turned_about c.is_eager.ensures (ap not c.if-not-is_eager.true) in
    let zero = ne_false c.ne.ensures c.if-ne.false in
    let here = spine-here c.requires.2 (spine-run t (goal.at.in_parts-here-requires t c).After-run_part-p) zero lazy in
    (omega (arith, c.decreases), (_, _, _, here-lent here))

pub in_parts-returns-then-not-is_eager : goal.in_parts-returns-then-not-is_eager
in_parts-returns-then-not-is_eager t c =
    let lazy = turned_about c.is_eager.ensures (ap not c.if-not-is_eager.true) in
    let zero = ne_false c.ne.ensures c.if-ne.false in
    λ l r ready.
    let here = spine-here ready (spine-run t (goal.at.in_parts-returns-then-not-is_eager t c).After-run_part-p) zero lazy in
    c.here.ensures _ _ _ (here-lent here)

pub in_parts-run_part-q-requires : goal.in_parts-run_part-q-requires
in_parts-run_part-q-requires t c =
    let asks = early_asks c.requires.2 (spine-run t (goal.at.in_parts-run_part-q-requires t c).After-run_part-p) in
    (omega (arith, c.decreases, asks.deep), (_, asks))

pub in_parts-rejoin-requires-then-ne-2 : goal.in_parts-rejoin-requires-then-ne-2
in_parts-rejoin-requires-then-ne-2 t c =
    let halts = early_halts c.requires.2 (spine-run t (goal.at.in_parts-rejoin-requires-then-ne-2 t c).After-run_part-p) (early-run t (goal.at.in_parts-rejoin-requires-then-ne-2 t c).After-run_part-q)
    (ne_true c.ne-2.ensures c.if-ne-2.true) in
    (_, _, _, _, _, halts.parted.parts, refl)

pub in_parts-returns-then-ne-2 : goal.in_parts-returns-then-ne-2
in_parts-returns-then-ne-2 t c =
    λ l r ready.
    rejoined (early_halts ready (spine-run t (goal.at.in_parts-returns-then-ne-2 t c).After-run_part-p) (early-run t (goal.at.in_parts-returns-then-ne-2 t c).After-run_part-q)
    (ne_true c.ne-2.ensures c.if-ne-2.true)) refl
    (c.rejoin-then-ne-2.ensures c.run_part-q.result refl)

pub in_parts-here-requires-2 : goal.in_parts-here-requires-2
in_parts-here-requires-2 t c =
    let zero = ne_false c.ne-2.ensures c.if-ne-2.false in
    let here = early_here c.requires.2 (spine-run t (goal.at.in_parts-here-requires-2 t c).After-run_part-p) (early-run t (goal.at.in_parts-here-requires-2 t c).After-run_part-q) zero in (
      omega (arith, c.decreases),
      (
        _,
        _,
        _,
        here-lent here,
      ),
    )

pub in_parts-returns : goal.in_parts-returns
in_parts-returns t c =
    let zero = ne_false c.ne-2.ensures c.if-ne-2.false in
    λ l r ready.
    let here = early_here ready (spine-run t (goal.at.in_parts-returns t c).After-run_part-p) (early-run t (goal.at.in_parts-returns t c).After-run_part-q) zero in
    c.here-2.ensures _ _ _ (here-lent here)

pub rest-further-p-requires : goal.rest-further-p-requires
rest-further-p-requires t c =
    let asks = function_asks c.requires.3 in
    (omega (arith, c.decreases, asks.ready.deep), (_, asks))

pub rest-rejoin-requires : goal.rest-rejoin-requires
rest-rejoin-requires t c =
    let resting = c.requires.3 in
    let halts = function_halts resting (left-run t (goal.at.rest-rejoin-requires t c).After-further-p) (λ e. absurd (ne_true c.ne.ensures c.if-ne.true e)) in
    (_, _, _, _, _, halts.parted.parts, resting.at_whole)

pub rest-returns-then-ne : goal.rest-returns-then-ne
rest-returns-then-ne t c =
    λ a l r resting.
    let halts = function_halts resting (left-run t (goal.at.rest-returns-then-ne t c).After-further-p) (λ e. absurd (ne_true c.ne.ensures c.if-ne.true e)) in
    rejoined halts resting.at_whole
    (c.rejoin.ensures c.further-p.result
    refl)

pub rest-rejoin-requires-then-not-is_late : goal.rest-rejoin-requires-then-not-is_late
rest-rejoin-requires-then-not-is_late t c =
    let resting = c.requires.3 in
    let halts = function_halts resting (left-run t (goal.at.rest-rejoin-requires-then-not-is_late t c).After-further-p)
    (λ e. turned_about c.is_late.ensures (ap not c.if-not-is_late.true)) in
    (_, _, _, _, _, halts.parted.parts, resting.at_whole)

pub rest-returns-then-not-is_late : goal.rest-returns-then-not-is_late
rest-returns-then-not-is_late t c =
    λ a l r resting.
    let halts = function_halts resting (left-run t (goal.at.rest-returns-then-not-is_late t c).After-further-p)
    (λ e. turned_about c.is_late.ensures (ap not c.if-not-is_late.true)) in
    rejoined halts resting.at_whole
    (c.rejoin-then-not-is_late.ensures c.further-p.result
    (ne_false c.ne.ensures c.if-ne.false))

pub rest-run_part-q-requires : goal.rest-run_part-q-requires
rest-run_part-q-requires t c =
    let asks = late_asks c.requires.3 (left-run t (goal.at.rest-run_part-q-requires t c).After-further-p) in
    (omega (arith, c.decreases, asks.deep), (_, asks))

pub rest-rejoin-requires-2 : goal.rest-rejoin-requires-2
rest-rejoin-requires-2 t c =
    let resting = c.requires.3 in
    let halts = late_halts resting (left-run t (goal.at.rest-rejoin-requires-2 t c).After-further-p) (late-run t (goal.at.rest-rejoin-requires-2 t c).After-run_part-q) in
    (_, _, _, _, _, halts.parted.parts, resting.at_whole)

pub rest-returns : goal.rest-returns
rest-returns t c =
    λ a l r resting.
    rejoined (late_halts resting (left-run t (goal.at.rest-returns t c).After-further-p) (late-run t (goal.at.rest-returns t c).After-run_part-q)) resting.at_whole
    (c.rejoin-2.ensures c.run_part-q.result refl)

pub round-returns-then-is_normal : goal.round-returns-then-is_normal
round-returns-then-is_normal t c =
    λ u ready.
    stays_normal ready c.is_normal.ensures c.if-is_normal.true

pub round-returns-in-Variable : goal.round-returns-in-Variable
round-returns-in-Variable t c =
    λ u ready.
    stays_variable ready c.node_at.ensures c.in-Variable.is

pub round-in_body-requires : goal.round-in_body-requires
round-in_body-requires t c = (
  omega (arith, c.decreases),
  abstraction_asks c.requires.1 c.node_at.ensures c.in-Abstraction.is,
)

pub round-returns-in-Abstraction : goal.round-returns-in-Abstraction
round-returns-in-Abstraction t c =
    λ u ready. in_abstraction ready c.node_at.ensures c.in-Abstraction.is c.in_body.ensures

pub round-in_parts-requires : goal.round-in_parts-requires
round-in_parts-requires t c = (
  omega (arith, c.decreases),
  application_asks c.requires.1 c.node_at.ensures c.in-Application.is,
)

pub round-returns-in-Application : goal.round-returns-in-Application
round-returns-in-Application t c =
    λ u ready. in_application ready c.node_at.ensures c.in-Application.is
    c.in_parts.ensures

pub run-loop-order-init : goal.run-loop-order-init
run-loop-order-init t c =
    λ u ready. none_gone ready Rested

pub run-returns-then-ne : goal.run-returns-then-ne
run-returns-then-ne t c =
    record {
      ran = λ u ready.
          let gone = c.loop-order.invariant u ready in
          gone_last ready gone (c.round-q.ensures gone.term (ready-again ready gone))
          (ne_true c.ne.ensures c.if-ne.true);
      ended = ne_true c.ne.ensures c.if-ne.true;
    }

pub run-loop-order-preserved : goal.run-loop-order-preserved
run-loop-order-preserved t c =
    λ u ready.
    let gone = c.loop-order.invariant u ready in
    gone_placed
    (gone_on ready gone (c.round-q.ensures gone.term (ready-again ready gone)))

pub run_part-returns-then-at_rest : goal.run_part-returns-then-at_rest
run_part-returns-then-at_rest t c =
    at_once (c.at_rest.ensures c.if-at_rest.true)
