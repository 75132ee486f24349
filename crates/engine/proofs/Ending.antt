-- How the steps on a whole term end: what the reason to stop says, and that it is the end of a run.
use Prim.Native.Nat.{ℕ, ◌-◌, ◌≤◌, ◌<◌}
use mathlib.Core.Path.{◌≡◌, refl, sym, ap, ◌∙◌}
use mathlib.Core.Logic.{◌⊎◌, inl, inr}
use mathlib.Core.Option.{Option, none, some}
use mathlib.Core.List.{List}
use native.Mathlib.Omega.{arith}
use Rattle.calculus.specs.Term.{Term, nodes}
use Rattle.calculus.specs.Refusal as calculus
use Rattle.calculus.specs.Orders.{Order, step}
use Rattle.calculus.specs.Judging.{judge}
use Rattle.calculus.specs.Ends.{Accepted, ends_finished, ends_unfinished, ends_refused}
use Rattle.calculus.proofs.Measures.{nodes_positive}
use Rattle.calculus.proofs.Running.{accepted_by}
use Rattle.term.specs.Answers.{refusal_of}
use Rattle.term.specs.declared.Refusal.{Refusal}
use Rattle.term.specs.declared.Refusal.TheVariants.{TooHigh, TooManyNodes, IndexTooGreat}
use Rattle.std.specs.Prelude.{Ok, Err}
use Rattle.nodes.specs.declared.runs.End.TheVariants.{Finished, Unfinished}
use Rattle.engine.specs.Judging.{judge_at, Tells, tells_high, tells_many, tells_great}
use Rattle.engine.specs.Running.{Stops, rested, stepped, spent, full, refuses}
use Rattle.engine.specs.Stepping as stepping
use Rattle.engine.specs.Stepping.{Rooted, Ended, Steppable, Found, Steps, comes}
use Rattle.engine.specs.States.{State, standing}
use Rattle.engine.specs.declared.Stop.{Stop}
use Rattle.engine.specs.declared.Stop.TheVariants as stopped
use Rattle.engine.proofs.Parts.{judge_root}
use Rattle.engine.proofs.Phases.{rests}

-- WHICH REFUSAL a reason to stop is
abbrev refusal_at : Stop → Option calculus.Refusal
refusal_at stopped.Rested = none
refusal_at stopped.Stepped = none
refusal_at stopped.Spent = none
refusal_at stopped.Full = none
refusal_at stopped.TooHigh = some calculus.too_high
refusal_at stopped.TooManyNodes = some calculus.too_many_nodes
refusal_at stopped.IndexTooGreat = some calculus.index_too_great

told-at : {e : calculus.Refusal} {n : Stop} → Tells e n → refusal_at n ≡ some e
told-at tells_high = refl
told-at tells_many = refl
told-at tells_great = refl

-- WHAT EACH REASON TO STOP says of the next step
module _ {o : Order} {most budget : ℕ} {t : Term} where
  step_left : {n : Stop} → Stops o 0 most budget t n → n ≡ stopped.Spent
      → (budget ≡ 0) × ((u : Term) × (step o t ≡ some u))
  step_left (rested e) is = absurd cc
  step_left stepped is = absurd cc
  step_left (spent {u} b e) is = (b, (u, e))
  step_left full is = absurd cc
  step_left (refuses b e j tells_high) is = absurd cc
  step_left (refuses b e j tells_many) is = absurd cc
  step_left (refuses b e j tells_great) is = absurd cc

  step-refused : {n : Stop} {f : calculus.Refusal} → Stops o 0 most budget t n → refusal_at n ≡ some f
      → (0 < budget) × ((u : Term) × (step o t ≡ some u) × (judge_at 0 most u ≡ some f))
  step-refused (rested e) is = absurd cc
  step-refused stepped is = absurd cc
  step-refused (spent b e) is = absurd cc
  step-refused full is = absurd cc
  step-refused (refuses {u} b next refused tells) is = (b, (u, next, refused ∙ sym (told-at tells) ∙ is))

-- THE STATE AT FIRST
abbrev pub begun : (cap limit used : ℕ) → State
begun cap limit used = standing (used - 1) (record { used = used; budget = limit; spare = cap - used })

module _ {t : Term} {cap : ℕ} {store : List ℕ} {used : ℕ} (can : Steppable t cap store used) where
  pub some-used : 0 < used
  some-used = omega (arith, can.used_are, nodes_positive t)

  rooted : (limit : ℕ) → Rooted t cap (begun cap limit used) store
  rooted limit = record {
    in_bounds = can.in_bounds;
    room = can.room;
    holds = can.holds;
    below = omega (arith, some-used);
    few_used = omega (arith, can.few);
    low = can.low;
    size = omega (arith, can.used_are, can.few);
  }

  pub run_all_asks : (limit : ℕ) → (u : Term) × Rooted u cap (begun cap limit used) store × (used ≡ nodes u)
  run_all_asks limit = (t, rooted limit, can.used_are)

  -- THE END OF A RUN
  module _ {o : Order} {limit : ℕ} {s : State} {after : List ℕ}
      (run : (u : Term) → Rooted u cap (begun cap limit used) store → used ≡ nodes u
      → Ended o u cap (begun cap limit used) s store after) where
    ended : Ended o t cap (begun cap limit used) s store after
    ended = run t (rooted limit) can.used_are

    pub budget-left : s.budget ≤ limit
    budget-left = omega (arith, ended.onward.count)

    way : Accepted (judge cap) o (limit - s.budget) t ended.onward.term
    way =
        let count : limit - s.budget ≡ ended.onward.steps = omega (arith, ended.onward.count) in
        rw count (accepted_by (λ v a. sym (judge_root cap v) ∙ a) ended.onward.way)

    found : Found ended.onward.term cap s.node after
    found =
        let at = ended.onward.rooted in
        record {
          holds = at.holds;
          inside = omega (arith, at.below, at.few_used, at.room);
          few = omega (arith, at.size);
        }

    pub at_rest : s.stop ≡ stopped.Rested → Steps o t limit cap store
        (Ok (record { end = Finished; steps = limit - s.budget; node = s.node })) after
    at_rest is =
        let within : limit - s.budget ≤ limit = omega arith in
        record {
          reaches = comes (ends_finished within way (rests ended.stops is)) found;
          as_long = ended.onward.as_long;
        }

    pub at_limit : s.stop ≡ stopped.Spent → Steps o t limit cap store
        (Ok (record { end = Unfinished; steps = limit - s.budget; node = s.node })) after
    at_limit is =
        let (none_left, (u, next)) = step_left ended.stops is in
        let all : limit - s.budget ≡ limit = omega arith in
        record {
          reaches = rw all (comes (ends_unfinished (rw all at way) next) found);
          as_long = ended.onward.as_long;
        }

    refused_for : (why : Refusal) → refusal_at s.stop ≡ some (refusal_of why)
        → Steps o t limit cap store (Err (record { steps = limit - s.budget; why = why })) after
    refused_for why is =
        let (left, (u, next, refused)) = step-refused ended.stops is in
        let short : limit - s.budget < limit = omega (arith, budget-left) in
        record {
          reaches = stepping.refuses (ends_refused short way next (sym (judge_root cap u) ∙ refused));
          as_long = ended.onward.as_long;
        }

    pub at_height : s.stop ≡ stopped.TooHigh → Steps o t limit cap store
        (Err (record { steps = limit - s.budget; why = TooHigh })) after
    at_height is = refused_for TooHigh (ap refusal_at is)

    pub at_nodes : s.stop ≡ stopped.TooManyNodes
        → Steps o t limit cap store (Err (record { steps = limit - s.budget; why = TooManyNodes })) after
    at_nodes is = refused_for TooManyNodes (ap refusal_at is)

    pub at_index : s.stop ≡ stopped.IndexTooGreat
        → Steps o t limit cap store (Err (record { steps = limit - s.budget; why = IndexTooGreat })) after
    at_index is = refused_for IndexTooGreat (ap refusal_at is)

    -- the other two are no ends
    pub no_end : (s.stop ≡ stopped.Stepped) ⊎ (s.stop ≡ stopped.Full) → ⊥
    no_end (inl is) = ended.not_stepped is
    no_end (inr is) = ended.not_full is
