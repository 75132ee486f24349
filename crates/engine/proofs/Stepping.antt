-- Steps on a whole term: rounds in the first part of the store, the term made anew, and how it all ends.
use Prim.Native.Nat.{ℕ, ◌+◌, ◌*◌, ◌-◌, ◌<◌}
use mathlib.Core.Path.{◌≡◌, refl, sym, ◌∙◌}
use mathlib.Core.List.{List, ◌++◌}
use native.Mathlib.Decide.{dec_lt}
use native.Mathlib.Omega.{arith}
use lib.ListN.{length, take, drop}
use lib.Seq.{length-take-le, length_front, take_at, get_or-take, get_or-drop}
use Rattle.calculus.specs.Term.{Term, nodes}
use Rattle.calculus.specs.Orders.{Order}
use Rattle.calculus.specs.Ends.{stay_so}
use Rattle.calculus.proofs.Measures.{nodes_positive}
use Rattle.calculus.proofs.Running.{accepted_then}
use Rattle.nodes.proofs.Keeping.{holds-moved}
use Rattle.engine.specs.Running.{Ready, Ran, Runs, started}
use Rattle.engine.specs.Moving.{from_base, Copiable, Copies, Movable, Moves}
use Rattle.engine.specs.Stepping.{Rooted, RunsFirst, Renewed, Onward, Ended}
use Rattle.engine.specs.States.{State, restarted}
use Rattle.engine.specs.declared.Stop.TheVariants.{Full}

module _ {t : Term} {cap : ℕ} {s : State} {store : List ℕ} (at : Rooted t cap s store) where
  -- ROUNDS in the first part of the store
  pub first-long : length (take (6 * cap) store) ≡ 6 * cap
  first-long = length-take-le (6 * cap) store (omega (arith, at.room))

  pub first-ready : Ready t (take (6 * cap) store) 0 s
  first-ready = record {
    holds =
        holds-moved store (take (6 * cap) store) (3 * cap) (λ k lt. get_or-take (6 * cap) store k 0 (omega arith)) t
        s.node (omega (arith, at.below, at.few_used)) at.holds;
    below = at.below;
    inside = omega (arith, at.few_used, first-long);
    small = omega (arith, at.in_bounds, first-long);
    deep = omega (arith, at.low);
    few = omega (arith, at.size, at.in_bounds);
  }

  pub first_run : {o : Order} {q : State} {part : List ℕ} → Runs o (take (6 * cap) store) 0 s q part
      → RunsFirst o t cap s store q (part ++ drop (6 * cap) store)
  first_run {part = part} runs =
      let ran = runs.ran t first-ready in
      let long = ran.same.as_long in
      let first = take_at part (drop (6 * cap) store) (6 * cap) (long ∙ first-long) in
      record {
        ran = rw first ran;
        ended = runs.ended;
        as_long = length_front store part (6 * cap) long;
      }

  -- THE TERM MADE ANEW
  pub copy_asks : {node : ℕ} → s.node ≡ node → Copiable t store node (3 * cap) 0
  copy_asks is = record {
    holds = rw is at at.holds;
    below = omega (arith, at.below, at.few_used);
    fits = omega (arith, at.size, at.room);
    small = omega (arith, at.room, at.in_bounds);
  }

  module _ {node : ℕ} (is : s.node ≡ node) {top : ℕ} {mid : List ℕ}
      (copy : (u : Term) → Copiable u store node (3 * cap) 0 → Copies u store (3 * cap) 0 top mid) where
    copies : Copies t store (3 * cap) 0 top mid
    copies = copy t (copy_asks is)

    pub some_copied : 0 < top
    some_copied = omega (arith, copies.made, nodes_positive t)

    pub move_asks : Movable mid (3 * cap) top
    move_asks = record {
      apart = omega (arith, copies.made, at.size);
      fits = omega (arith, copies.made, copies.same.as_long, at.size, at.room);
      small = omega (arith, copies.same.as_long, at.room, at.in_bounds);
    }

    pub renewed : {after : List ℕ} → Moves mid (3 * cap) top after
        → Renewed t cap s (restarted s top) after
    renewed {after} moves = record {
      rooted = record {
        in_bounds = at.in_bounds;
        room = moves.as_long ∙ copies.same.as_long ∙ at.room;
        holds =
            holds-moved (from_base (3 * cap) mid) after top
            (λ k lt. moves.moved k lt ∙ sym (get_or-drop (2 * (3 * cap)) mid k 0)) t (top - 1)
            (omega (arith, some_copied)) copies.holds;
        below = omega (arith, some_copied);
        few_used = omega (arith, copies.made, at.size);
        low = at.low;
        size = at.size;
      };
      used_are = omega (arith, copies.made);
      budget_same = refl;
      spare_same = refl;
    }

-- STEPS SO FAR, to a term that is all the nodes in use
pub record Compact (o : Order) (t : Term) (cap : ℕ) (from s : State) (store after : List ℕ) : Type 0 where
  pub onward : Onward o t cap from s store after
  pub used_are : s.used ≡ nodes onward.term

pub begins : (o : Order) {t : Term} {cap : ℕ} {from : State} {store : List ℕ} → Rooted t cap from store
    → from.used ≡ nodes t
    → Compact o t cap from from store store
begins o {t} {from = from} at are = record {
  onward = record {
    term = t;
    steps = 0;
    way = stay_so;
    rooted = at;
    count = omega arith;
    as_long = refl;
  };
  used_are = are;
}

pub run_asks : {o : Order} {t : Term} {cap : ℕ} {from s : State} {store now : List ℕ}
    → Compact o t cap from s store now
    → (u : Term) × Rooted u cap s now
run_asks so_far = (so_far.onward.term, so_far.onward.rooted)

module _ {o : Order} {t : Term} {cap : ℕ} {from s : State} {store now : List ℕ}
    (so_far : Compact o t cap from s store now) {q : State} {after : List ℕ}
    (run : (u : Term) → Rooted u cap s now → RunsFirst o u cap s now q after) where
  abbrev been : Onward o t cap from s store now
  been = so_far.onward

  runs : RunsFirst o been.term cap s now q after
  runs = run been.term been.rooted

  -- the first part of the store is as long as before
  long_after : length (take (6 * cap) after) ≡ 6 * cap
  long_after = length-take-le (6 * cap) after (omega (arith, runs.as_long, been.rooted.room))

  ran : Ran o 0 (started been.term s (take (6 * cap) now)) q (take (6 * cap) after)
  ran = runs.ran

  on : Onward o t cap from q store after
  on = record {
    term = ran.term;
    steps = been.steps + ran.steps;
    way = accepted_then been.way (rw been.rooted.size at ran.way);
    rooted = record {
      in_bounds = been.rooted.in_bounds;
      room = runs.as_long ∙ been.rooted.room;
      holds =
          holds-moved (take (6 * cap) after) after q.used
          (λ k lt. sym (get_or-take (6 * cap) after k 0 (omega (arith, ran.inside, long_after)))) ran.term q.node
          ran.below ran.holds;
      below = ran.below;
      few_used = omega (arith, ran.inside, long_after);
      low = omega (arith, ran.deep);
      size = ran.size ∙ been.rooted.size;
    };
    count = omega (arith, ran.count, been.count);
    as_long = runs.as_long ∙ been.as_long;
  }

  pub at_end : (q.stop ≡ Full → ⊥) → Ended o t cap from q store after
  unfolding on
  at_end not_full = record {
    onward = on;
    stops = rw been.rooted.size at ran.stops;
    not_stepped = runs.ended;
    not_full = not_full;
  }

  pub renew_asks : (u : Term) × Rooted u cap q after
  renew_asks = (on.term, on.rooted)

  module _ {r : State} {last : List ℕ} (renew : (u : Term) → Rooted u cap q after → Renewed u cap q r last) where
    new : Renewed on.term cap q r last
    new = renew on.term on.rooted

    -- all but the term's nodes were free, so there was room for a step
    pub budget_falls : q.stop ≡ Full → r.budget < s.budget
    budget_falls stuck =
        elim (dec_lt 0 ran.steps) [
          | yes more ↦ omega (arith, new.budget_same, ran.count)
          | no zero ↦
              let little = ran.filled stuck (omega arith) in
              absurd (omega (arith, long_after, so_far.used_are, been.rooted.size))
        ]

    pub goes_on : Compact o t cap from r store last
    goes_on = record {
      onward = record {
        term = on.term;
        steps = on.steps;
        way = on.way;
        rooted = new.rooted;
        count = omega (arith, on.count, new.budget_same);
        as_long = new.rooted.room ∙ sym on.rooted.room ∙ on.as_long;
      };
      used_are = new.used_are;
    }
