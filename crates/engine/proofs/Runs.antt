-- The rounds of a run, and what each return of a round comes to.
use Prim.Native.Nat.{ℕ, ◌+◌, ◌*◌, ◌≤◌, ◌<◌}
use mathlib.Core.Path.{◌≡◌, refl, sym, ◌∙◌}
use mathlib.Core.Bool.{Bool, true, false, not, false≢true}
use mathlib.Core.Option.{none}
use mathlib.Core.List.{List}
use native.Mathlib.Omega.{arith}
use lib.ListN.{length}
use lib.Dec.{eqb}
use borrow.Author.Tests.{eqb-true}
use Rattle.calculus.specs.Term.{Term, lam, app, nodes, height}
use Rattle.calculus.specs.Bounds.{most_height}
use Rattle.calculus.specs.Orders.{Order, step, enters}
use Rattle.calculus.specs.Ends.{Accepted, stay_so}
use Rattle.calculus.proofs.NextStep.{next-body, no_body}
use Rattle.calculus.proofs.Tests.{flipped}
use Rattle.calculus.proofs.Running.{accepted_then}
use Rattle.nodes.specs.Packing.{normal_in}
use Rattle.nodes.specs.Node.{node_in}
use Rattle.nodes.specs.declared.Node.{Node}
use Rattle.nodes.specs.declared.Node.TheVariants.{Variable, Abstraction, Application}
use Rattle.nodes.specs.Store.{Holds, Same, variable, word, link}
use Rattle.nodes.proofs.Keeping.{same_refl, same_then, holds_kept, says}
use Rattle.nodes.proofs.Parts.{held-variable, held-abstraction, held-application}
use Rattle.engine.specs.Judging.{judge_at}
use Rattle.engine.specs.Running.{Start, started, most, Stops, rested}
use Rattle.engine.specs.Running.{Kept, unmoved, moved, Ready, Ran, Runs}
use Rattle.engine.specs.Joining.{Body, Joined}
use Rattle.engine.specs.States.{State, placed, halted}
use Rattle.engine.specs.declared.Stop.{Stop}
use Rattle.engine.specs.declared.Stop.TheVariants.{Rested, Stepped, Full}
use Rattle.engine.proofs.Frames.{normal-stuck, Frame, Always, always, lifted, lifted_end, body-frame}
use Rattle.engine.proofs.Phases.{rests}

-- what a test that is turned about tells
pub turned_about : {b c d : Bool} → b ≡ c → not b ≡ d → c ≡ not d
turned_about {b} {d = d} told is = sym told ∙ flipped b d is

-- STEPS SO FAR, to the term that the node is now
pub record Gone (o : Order) (depth : ℕ) (a : Start) (s : State) (room : List ℕ) : Type 0 where
  pub term : Term
  pub steps : ℕ
  pub way : Accepted (judge_at depth (most a)) o steps a.term term
  pub count : s.budget + steps ≡ a.budget
  pub size : nodes term + s.spare ≡ most a
  pub deep : depth + height term ≤ most_height
  pub holds : Holds room term s.node
  pub below : s.node < s.used
  pub grows : a.used ≤ s.used
  pub inside : 2 * s.used ≤ length room
  pub kept : Kept steps depth a.node a.used s (length room)
  pub same : Same a.room room a.used

-- without a step nothing was made
none_made : {steps depth node used long : ℕ} {s : State} → Kept steps depth node used s long → steps ≡ 0
    → s.used ≡ used
none_made (unmoved e n u) zero = u
none_made (moved lt fits) zero = absurd (omega arith)

kept_on : {m n depth node used long : ℕ} {s q : State} → Kept m depth node used s long
    → Kept n depth s.node s.used q long → Kept (m + n) depth node used q long
kept_on (unmoved e n u) (unmoved e2 n2 u2) = unmoved (omega arith) (n2 ∙ n) (u2 ∙ u)
kept_on (unmoved e n u) (moved lt fits) = moved (omega arith) fits
kept_on (moved lt fits) (unmoved e2 n2 u2) = moved (omega arith) (omega arith)
kept_on (moved lt fits) (moved lt2 fits2) = moved (omega arith) fits2

-- by the kind of the node, what a call asks
module _ {t : Term} {s : State} {room : List ℕ} {depth : ℕ} (ready : Ready t room depth s) {found : Node}
    (told : found ≡ node_in (word room s.node) (link room s.node)) where
  pub abstraction_asks : {n : ℕ} → found ≡ Abstraction n → (b : Term) × Ready (lam b) room depth s
  abstraction_asks is =
      let v = held-abstraction room s.node told t ready.holds is in
      (v.body, rw v.same at ready)

  pub application_asks : {m n : ℕ} → found ≡ Application m n
      → (l : Term) × (r : Term) × Ready (app l r) room depth s
  application_asks is =
      let v = held-application room s.node told t ready.holds is in
      (v.left, v.right, rw v.same at ready)

module _ {o : Order} {depth : ℕ} where
  -- and why they stop
  pub gone_ran : {a : Start} {s : State} {room : List ℕ} (gone : Gone o depth a s room)
      → Stops o depth (most a) s.budget gone.term s.stop → (s.stop ≡ Stepped → 0 < gone.steps)
      → (s.stop ≡ Full → gone.steps ≡ 0 → length room < 2 * (a.used + depth + most a)) → Ran o depth a s room
  gone_ran gone stops turned filled = record {
    term = gone.term;
    steps = gone.steps;
    way = gone.way;
    stops = stops;
    count = gone.count;
    size = gone.size;
    deep = gone.deep;
    holds = gone.holds;
    below = gone.below;
    grows = gone.grows;
    inside = gone.inside;
    kept = gone.kept;
    same = gone.same;
    turned = turned;
    filled = filled;
  }

  module _ {t : Term} {s : State} {room : List ℕ} (ready : Ready t room depth s) where
    -- none so far
    pub none_gone : (stop : Stop) → Gone o depth (started t s room) (halted s stop) room
    none_gone stop = record {
      term = t;
      steps = 0;
      way = stay_so;
      count = omega arith;
      size = refl;
      deep = ready.deep;
      holds = ready.holds;
      below = ready.below;
      grows = omega arith;
      inside = ready.inside;
      kept = unmoved refl refl refl;
      same = same_refl room s.used;
    }

    module _ {mid : State} {between : List ℕ} (gone : Gone o depth (started t s room) mid between) where
      pub ready-again : Ready gone.term between depth mid
      ready-again = record {
        holds = gone.holds;
        below = gone.below;
        inside = gone.inside;
        small = omega (arith, gone.same.as_long, ready.small);
        deep = gone.deep;
        few = omega (arith, gone.size, ready.few);
      }

      module _ {q : State} {after : List ℕ} (ran : Ran o depth (started gone.term mid between) q after) where
        pub gone_on : Gone o depth (started t s room) q after
        gone_on = record {
          term = ran.term;
          steps = gone.steps + ran.steps;
          way = accepted_then gone.way (rw gone.size at ran.way);
          count = omega (arith, gone.count, ran.count);
          size = ran.size ∙ gone.size;
          deep = ran.deep;
          holds = ran.holds;
          below = ran.below;
          grows = omega (arith, gone.grows, ran.grows);
          inside = ran.inside;
          kept = kept_on {s = mid} (rw ran.same.as_long gone.kept) ran.kept;
          same = same_then gone.grows gone.same ran.same;
        }

        pub gone_last : (q.stop ≡ Stepped → ⊥) → Ran o depth (started t s room) q after
        unfolding gone_on
        gone_last ended =
            gone_ran gone_on (rw gone.size at ran.stops) (λ one. absurd (ended one))
            (λ three zero.
            omega (arith, none_made gone.kept (omega arith), ran.filled three (omega arith), gone.size))

  -- NO STEP
  pub stays : {t : Term} {s : State} {room : List ℕ} → Ready t room depth s → step o t ≡ none
      → Ran o depth (started t s room) (halted s Rested) room
  unfolding none_gone
  stays ready none_left = gone_ran (none_gone ready Rested) (rested none_left) (λ one. cc) (λ three zero. cc)

  -- A ROUND, by what the node says of its term
  module _ {t : Term} {s : State} {room : List ℕ} (ready : Ready t room depth s) where
    pub stays_normal : {b : Bool} → b ≡ eqb (normal_in (word room s.node)) 1 → b ≡ true
        → Ran o depth (started t s room) (halted s Rested) room
    stays_normal told is =
        let one = eqb-true (normal_in (word room s.node)) 1 (sym told ∙ is) in
        stays ready (normal-stuck o ((says room t s.node ready.holds).is_normal one))

    module _ {found : Node} (told : found ≡ node_in (word room s.node) (link room s.node)) where
      pub stays_variable : {i : ℕ} → found ≡ Variable i → Ran o depth (started t s room) (halted s Rested) room
      stays_variable is =
          let variable_is = held-variable room s.node told t ready.holds is in
          stays ready (rw variable_is (normal-stuck o variable))

      module _ {q : State} {after : List ℕ} where
        pub in_abstraction : {n : ℕ} → found ≡ Abstraction n
            → ((b : Term) → Ready (lam b) room depth s → Ran o depth (started (lam b) s room) q after)
            → Ran o depth (started t s room) q after
        in_abstraction is ran =
            let v = held-abstraction room s.node told t ready.holds is in
            rw v.same (ran v.body (rw v.same at ready))

        pub in_application : {m n : ℕ} → found ≡ Application m n
            → ((l r : Term) → Ready (app l r) room depth s → Ran o depth (started (app l r) s room) q after)
            → Ran o depth (started t s room) q after
        in_application is ran =
            let v = held-application room s.node told t ready.holds is in
            rw v.same (ran v.left v.right (rw v.same at ready))

  -- A NODE MADE AGAIN, once its parts stop
  pub joined-ran : {steps : ℕ} {a : Start} {t : Term} {s w : State} {after : List ℕ}
      → Accepted (judge_at depth (most a)) o steps a.term t → s.budget + steps ≡ a.budget
      → nodes t + s.spare ≡ most a → depth + height t ≤ most_height
      → Stops o depth (most a) s.budget t s.stop → (s.stop ≡ Stepped → 0 < steps)
      → (s.stop ≡ Full → steps ≡ 0 → length a.room < 2 * (a.used + depth + most a))
      → Joined steps depth a t s w after → Ran o depth a w after
  joined-ran {steps} {t = t} way count size deep stops turned filled joined = record {
    term = t;
    steps = steps;
    way = way;
    stops = rw (joined.budget_same, joined.stop_same) stops;
    count = omega (arith, joined.budget_same);
    size = omega (arith, joined.spare_same);
    deep = deep;
    holds = joined.holds;
    below = joined.below;
    grows = joined.grows;
    inside = joined.inside;
    kept = joined.kept;
    same = joined.same;
    turned = λ one. turned (sym joined.stop_same ∙ one);
    filled = λ three zero. omega (arith, filled (sym joined.stop_same ∙ three) zero, joined.same.as_long);
  }

-- AN ABSTRACTION
module _ {depth : ℕ} {b : Term} {s : State} {room : List ℕ} (ready : Ready (lam b) room depth s) where
  pub stays_shut : {o : Order} → enters o ≡ false → Ran o depth (started (lam b) s room) (halted s Rested) room
  stays_shut {o} shut = stays ready (next-body o (no_body (λ e. absurd (false≢true (sym shut ∙ e)))))

  pub body_asks : Ready b room (depth + 1) (placed s (link room s.node))
  unfolding Holds nodes height
  body_asks = record {
    holds = ready.holds.2;
    below = omega (arith, ready.holds.1, ready.below);
    inside = ready.inside;
    small = ready.small;
    deep = omega (arith, ready.deep);
    few = omega (arith, ready.few);
  }

  module _ {o : Order} {q : State} {after : List ℕ}
      (runs : Runs o room (depth + 1) (placed s (link room s.node)) q after) where
    pub body-ran : Ran o (depth + 1) (started b (placed s (link room s.node)) room) q after
    body-ran = runs.ran b body_asks

    pub rebind_asks : Body body-ran.steps depth (started (lam b) s room) body-ran.term q after
    unfolding nodes height
    rebind_asks =
        let link_same = body-ran.same.kept (2 * s.node + 1) (omega (arith, ready.below)) in
        record {
          first = b;
          is = refl;
          was = holds_kept (lam b) s.node body-ran.same ready.below ready.holds;
          begun = ready.below;
          holds = body-ran.holds;
          below = body-ran.below;
          grows = body-ran.grows;
          inside = body-ran.inside;
          small = omega (arith, body-ran.same.as_long, ready.small);
          low = omega (arith, body-ran.deep);
          few = omega (arith, body-ran.size, ready.few);
          kept = rw link_same body-ran.kept;
          same = body-ran.same;
        }

    pub body-again : enters o ≡ true → {w : State} {end : List ℕ}
        → Joined body-ran.steps depth (started (lam b) s room) (lam body-ran.term) q w end
        → Ran o depth (started (lam b) s room) w end
    unfolding nodes height
    body-again entered joined =
        let frame : Frame o o lam Always depth (nodes (lam b) + s.spare) (depth + 1) (nodes b + s.spare) =
        body-frame o entered (omega arith) in
        joined-ran (lifted lam frame always body-ran.way).0 body-ran.count (omega (arith, body-ran.size))
        (omega (arith, body-ran.deep))
        (lifted_end lam frame always (λ e. next-body o (no_body (λ _. rests body-ran.stops e)))
        body-ran.stops)
        body-ran.turned (λ three zero. omega (arith, body-ran.filled three zero, body-ran.same.as_long)) joined
