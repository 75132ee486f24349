-- An application whose parts are stepped on, one after the other: what a run in a part asks, and what it comes to.
use Prim.Native.Nat.{ℕ, ◌+◌, ◌*◌, ◌/◌, ◌%◌, ◌^◌, ◌≤◌, ◌<◌}
use mathlib.Core.Path.{◌≡◌, refl, ◌∙◌}
use mathlib.Core.Bool.{true}
use mathlib.Core.Option.{none}
use mathlib.Core.List.{List}
use native.Mathlib.Omega.{arith}
use lib.ListN.{length, get_or}
use Rattle.calculus.specs.Term.{Term, app, nodes, height}
use Rattle.calculus.specs.Bounds.{most_height}
use Rattle.calculus.specs.Orders.{Order, step}
use Rattle.calculus.specs.Traits.{spine, eager, hybrid, late}
use Rattle.calculus.specs.Ends.{Accepted, stay_so}
use Rattle.calculus.proofs.NextStep.{Stuck, Unless}
use Rattle.calculus.proofs.Running.{accepted_then}
use Rattle.nodes.specs.Store.{Holds, link}
use Rattle.nodes.proofs.Keeping.{same_refl, same_then, holds_kept}
use Rattle.nodes.proofs.Holding.{indices_fit}
use Rattle.engine.specs.Judging.{judge_at, tells_high, tells_many, tells_great}
use Rattle.engine.specs.Running.{Start, started, most, Stops, rested, stepped, spent, full, refuses}
use Rattle.engine.specs.Running.{Kept, unmoved, moved, Ready, Ran}
use Rattle.engine.specs.Joining.{Together, together, apart, Parted}
use Rattle.engine.specs.States.{State, placed}
use Rattle.engine.specs.declared.Stop.{Stop}
use Rattle.engine.specs.declared.Stop.TheVariants.{Rested, Stepped, Full}
use Rattle.engine.proofs.Parts.{Beside}
use Rattle.engine.proofs.Frames.{Frame, Always, Neutral, lifted, lifted_end}
use Rattle.engine.proofs.Frames.{spine-frame, early_frame, left-frame, late-frame}

-- a run that rests has no step left
pub rests : {o : Order} {depth most budget : ℕ} {n : Stop} {t : Term} → Stops o depth most budget t n → n ≡ Rested
    → step o t ≡ none
rests (rested e) is = e
rests stepped is = cc
rests (spent b e) is = cc
rests full is = cc
rests (refuses b e j tells_high) is = cc
rests (refuses b e j tells_many) is = cc
rests (refuses b e j tells_great) is = cc

-- without a step no node was made
pub unused : {steps depth left right used : ℕ} {a : Start} {room : List ℕ}
    → Together steps depth a left right used room → steps ≡ 0 → used ≡ a.used
unused (together e l r u) zero = u
unused (apart lt fits) zero = absurd (omega arith)

-- every number of the room is a 64-bit number
abbrev pub Fit : List ℕ → Type 0
Fit room = (k : ℕ) → get_or room k 0 < 2 ^ 64

-- the parts, and why the steps stop there
pub record Halts (o : Order) (depth : ℕ) (a : Start) (l r : Term) (left right : ℕ) (s : State) (room : List ℕ)
    : Type 0 where
  pub parted : Parted o depth a l r left right s room
  pub stops : Stops o depth (most a) s.budget (app l r) s.stop
  pub turned : s.stop ≡ Stepped → 0 < parted.steps
  pub filled : s.stop ≡ Full → parted.steps ≡ 0 → length a.room < 2 * (a.used + depth + most a)

-- the parts are those of the node, and no step is made
pub begun : (o : Order) {depth left right : ℕ} {l r : Term} {s : State} {room : List ℕ}
    → left ≡ link room s.node % 4294967296 → right ≡ link room s.node / 4294967296
    → Ready (app l r) room depth s → Parted o depth (started (app l r) s room) l r left right s room
unfolding Holds
begun o {l = l} {r} {s} {room} left_is right_is ready = record {
  steps = 0;
  way = stay_so;
  count = omega arith;
  size = refl;
  few = ready.few;
  deep = ready.deep;
  parts = record {
    function = l;
    argument = r;
    is = refl;
    was = ready.holds;
    begun = ready.below;
    holds_left = rw left_is ready.holds.3;
    holds_right = rw right_is ready.holds.4;
    below_left = omega (arith, ready.holds.1, ready.below);
    below_right = omega (arith, ready.holds.2, ready.below);
    grows = omega arith;
    inside = ready.inside;
    small = ready.small;
    low = omega (arith, ready.deep);
    few = omega (arith, ready.few);
    kept = together refl left_is right_is refl;
    same = same_refl room s.used;
  };
}

module _ {o : Order} {depth : ℕ} {a : Start} {l r : Term} {left right : ℕ} {s : State} {room : List ℕ}
    (parted : Parted o depth a l r left right s room) where
  -- WHAT A CALL IN A PART ASKS
  pub left_asks : Ready l room (depth + 1) (placed s left)
  unfolding nodes height
  left_asks = record {
    holds = parted.parts.holds_left;
    below = parted.parts.below_left;
    inside = parted.parts.inside;
    small = parted.parts.small;
    deep = omega (arith, parted.deep);
    few = omega (arith, parted.size, parted.few);
  }

  pub right_asks : Ready r room (depth + 1) (placed s right)
  unfolding nodes height
  right_asks = record {
    holds = parted.parts.holds_right;
    below = parted.parts.below_right;
    inside = parted.parts.inside;
    small = parted.parts.small;
    deep = omega (arith, parted.deep);
    few = omega (arith, parted.size, parted.few);
  }

  -- THE PLACES OF THE PARTS, by what else is known
  module _ (fit : Fit room) where
    beside-left : Beside depth l
    beside-left = record {
      small = indices_fit room left l fit parted.parts.holds_left;
      low = left_asks.deep;
    }

    beside-right : Beside depth r
    beside-right = record {
      small = indices_fit room right r fit parted.parts.holds_right;
      low = right_asks.deep;
    }

    pub at_spine : Frame o (spine o) (λ m. app m r) Always depth (most a) (depth + 1) (nodes l + s.spare)
    unfolding nodes
    at_spine = spine-frame o r beside-right (omega (arith, parted.size))

    pub at_early : Stuck (spine o) l → eager o ≡ true
        → Frame o o (app l) Always depth (most a) (depth + 1) (nodes r + s.spare)
    unfolding nodes
    at_early stuck e = early_frame o l beside-left (omega (arith, parted.size)) stuck e

    pub at_left : Unless (eager o) (step o r) → hybrid o ≡ true
        → Frame o o (λ m. app m r) (Neutral o) depth (most a) (depth + 1) (nodes l + s.spare)
    unfolding nodes
    at_left unless e = left-frame o r beside-right (omega (arith, parted.size)) unless e

    pub at_late : Neutral o l → Stuck o l → late o ≡ true
        → Frame o o (app l) Always depth (most a) (depth + 1) (nodes r + s.spare)
    unfolding nodes
    at_late neutral stuck e = late-frame o l beside-left (omega (arith, parted.size)) neutral stuck e

  -- WHAT A RUN IN A PART COMES TO
  module _ {p : Order} {part : Term} {node : ℕ} {q : State} {after : List ℕ}
      (ran : Ran p (depth + 1) (started part (placed s node) room) q after) where
    -- the parts after it, one of which has moved only if it has
    parted_then : {m n : Term} {function argument : ℕ}
        → Accepted (judge_at depth (most a)) o ran.steps (app l r) (app m n)
        → nodes (app m n) + q.spare ≡ nodes (app l r) + s.spare → depth + height (app m n) ≤ most_height
        → Holds after m function → Holds after n argument → function < q.used → argument < q.used
        → (q.node ≡ node → (function ≡ left) × (argument ≡ right))
        → Parted o depth a m n function argument q after
    parted_then {function = function} {argument} way size deep held_left held_right below_left below_right unmoved_are =
        let was = parted.parts in
        record {
          steps = parted.steps + ran.steps;
          way = accepted_then parted.way way;
          count = omega (arith, parted.count, ran.count);
          size = size ∙ parted.size;
          few = parted.few;
          deep = deep;
          parts = record {
            function = was.function;
            argument = was.argument;
            is = was.is;
            was = holds_kept a.term a.node ran.same (omega (arith, was.begun, was.grows)) was.was;
            begun = was.begun;
            holds_left = held_left;
            holds_right = held_right;
            below_left = below_left;
            below_right = below_right;
            grows = omega (arith, was.grows, ran.grows);
            inside = ran.inside;
            small = omega (arith, was.small, ran.same.as_long);
            low = omega arith;
            few = omega (arith, parted.size, parted.few);
            kept = kept_then was.kept ran.kept;
            same = same_then was.grows was.same ran.same;
          };
        }
      where
        kept_then : Together parted.steps depth a left right s.used room
            → Kept ran.steps (depth + 1) node s.used q (length after)
            → Together (parted.steps + ran.steps) depth a function argument q.used after
        kept_then (together none_made l_is r_is used_is) (unmoved none_more node_is used_same) =
            let (left-same, right_same) = unmoved_are node_is in
            let begun = parted.parts.begun in
            let link_same = ran.same.kept (2 * a.node + 1) (omega (arith, parted.parts.grows)) in
            together (omega arith) (rw link_same (left-same ∙ l_is)) (rw link_same (right_same ∙ r_is))
            (used_same ∙ used_is)
        kept_then (together none_made l_is r_is used_is) (moved some room_left) = apart (omega arith) (omega arith)
        kept_then (apart some room_left) (unmoved none_more node_is used_same) =
            apart (omega arith) (omega (arith, ran.same.as_long))
        kept_then (apart some room_left) (moved more more_left) = apart (omega arith) (omega arith)

    -- why it stops, told of the whole; a part is smaller
    halts_then : {m n : Term} {function argument : ℕ} (now : Parted o depth a m n function argument q after)
        → now.steps ≡ parted.steps + ran.steps → nodes part < nodes (app l r)
        → Stops o depth (most a) q.budget (app m n) q.stop
        → Halts o depth a m n function argument q after
    halts_then now steps_are smaller stops = record {
      parted = now;
      stops = stops;
      turned = λ one. omega (arith, ran.turned one);
      filled = λ three zero.
          let same_used = unused parted.parts.kept (omega arith) in
          omega (arith, ran.filled three (omega arith), parted.size, now.parts.same.as_long);
    }

  module _ {p : Order} {I : Term → Type 0} {q : State} {after : List ℕ}
      (ran : Ran p (depth + 1) (started l (placed s left) room) q after)
      (frame : Frame o p (λ m. app m r) I depth (most a) (depth + 1) (nodes l + s.spare)) (i : I l) where
    pub left_then : Parted o depth a ran.term r q.node right q after
    unfolding nodes height
    left_then =
        parted_then ran (lifted (λ m. app m r) frame i ran.way).0 (omega (arith, ran.size))
        (omega (arith, ran.deep, parted.deep)) ran.holds
        (holds_kept r right ran.same parted.parts.below_right parted.parts.holds_right) ran.below
        (omega (arith, parted.parts.below_right, ran.grows)) (λ e. (e, refl))

    pub left_halts : (q.stop ≡ Rested → step o (app ran.term r) ≡ none)
        → Halts o depth a ran.term r q.node right q after
    unfolding nodes left_then parted_then
    left_halts last =
        halts_then ran left_then refl (omega arith)
        (lifted_end (λ m. app m r) frame (lifted (λ m. app m r) frame i ran.way).1 last ran.stops)

  module _ {p : Order} {I : Term → Type 0} {q : State} {after : List ℕ}
      (ran : Ran p (depth + 1) (started r (placed s right) room) q after)
      (frame : Frame o p (app l) I depth (most a) (depth + 1) (nodes r + s.spare)) (i : I r) where
    pub right_then : Parted o depth a l ran.term left q.node q after
    unfolding nodes height
    right_then =
        parted_then ran (lifted (app l) frame i ran.way).0 (omega (arith, ran.size))
        (omega (arith, ran.deep, parted.deep))
        (holds_kept l left ran.same parted.parts.below_left parted.parts.holds_left) ran.holds
        (omega (arith, parted.parts.below_left, ran.grows)) ran.below (λ e. (refl, e))

    pub right_halts : (q.stop ≡ Rested → step o (app l ran.term) ≡ none)
        → Halts o depth a l ran.term left q.node q after
    unfolding nodes right_then parted_then
    right_halts last =
        halts_then ran right_then refl (omega arith)
        (lifted_end (app l) frame (lifted (app l) frame i ran.way).1 last ran.stops)
