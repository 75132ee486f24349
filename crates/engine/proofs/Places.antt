-- An application, place by place: runs in its parts before a contraction here, and those that are left after it.
use Prim.Native.Nat.{ℕ, ◌+◌, ◌/◌, ◌%◌}
use mathlib.Core.Path.{◌≡◌, refl, sym, ◌∙◌}
use mathlib.Core.Bool.{Bool, true, false, false≢true}
use mathlib.Core.List.{List}
use Rattle.calculus.specs.Term.{Term, app, nodes}
use Rattle.calculus.specs.Orders.{Order, step}
use Rattle.calculus.specs.Traits.{spine, eager, late, NotLam}
use Rattle.calculus.proofs.NextStep.{Stuck, Unless}
use Rattle.calculus.proofs.Spines.{spine-rests}
use Rattle.nodes.specs.Node.{node_in}
use Rattle.nodes.specs.declared.Node.{Node}
use Rattle.nodes.specs.declared.Node.TheVariants.{Application}
use Rattle.nodes.specs.Store.{word, link}
use Rattle.nodes.proofs.Parts.{HeldApplication, held-application}
use Rattle.engine.specs.Running.{Start, started, most, Ready, Rested, Ran, Runs}
use Rattle.engine.specs.Joining.{Parts, Joined, Parted, Here, Resting}
use Rattle.engine.specs.States.{State, placed}
use Rattle.engine.specs.declared.Stop.TheVariants as stopped
use Rattle.engine.proofs.Frames.{Frame, Always, always, Neutral, lifted, rests-hybrid}
use Rattle.engine.proofs.Phases.{rests, Fit, Halts, begun, left_asks, right_asks, at_spine, at_early, at_left}
use Rattle.engine.proofs.Phases.{at_late, left_then, left_halts, right_then, right_halts}
use Rattle.engine.proofs.Runs.{joined-ran}

-- what making the application again gives, for whatever it was
abbrev pub Rejoins : (s : State) (whole left right : ℕ) (room : List ℕ) (q : State) (after : List ℕ) → Type 0
Rejoins s whole left right room q after =
    (steps depth : ℕ) (a : Start) (l r : Term) → Parts steps depth a l r left right s.used room → whole ≡ a.node
    → Joined steps depth a (app l r) s q after

pub rejoined : {o : Order} {depth whole left right : ℕ} {a : Start} {l r : Term} {s q : State} {room after : List ℕ}
    → Halts o depth a l r left right s room → whole ≡ a.node → Rejoins s whole left right room q after
    → Ran o depth a q after
rejoined {depth = depth} {a = a} {l} {r} halts is joins =
    let parted = halts.parted in
    joined-ran parted.way parted.count parted.size parted.deep halts.stops halts.turned
    halts.filled (joins parted.steps depth a l r parted.parts is)

-- a run in a part, from its node
pub record PartRun (o : Order) (depth : ℕ) (s : State) (node : ℕ) (room : List ℕ) (q : State) (after : List ℕ)
    : Type 0 where
  pub fit : Fit room
  pub runs : Runs o room (depth + 1) (placed s node) q after

-- the same where the spine's order rests in the part
pub record FurtherRun (o : Order) (depth : ℕ) (s : State) (node : ℕ) (room : List ℕ) (q : State) (after : List ℕ)
    : Type 0 where
  pub fit : Fit room
  pub ran : (t : Term) → Rested o t room (depth + 1) (placed s node)
      → Ran o (depth + 1) (started t (placed s node) room) q after

-- a run in the function part by the spine's order, and the argument's node
pub record SpineRun (o : Order) (depth : ℕ) (s : State) (right : ℕ) (room : List ℕ) (q : State) (after : List ℕ)
    : Type 0 where
  pub right_is : right ≡ link room s.node / 4294967296
  pub run : PartRun (spine o) depth s (link room s.node % 4294967296) room q after

-- a run in the argument, which a trait asks for once the function part is at rest
pub record ArgumentRun (asked : Bool) (o : Order) (depth : ℕ) (s : State) (right : ℕ) (room : List ℕ) (q : State)
    (after : List ℕ) : Type 0 where
  pub at_rest : s.stop ≡ stopped.Rested
  pub on : asked ≡ true
  pub run : PartRun o depth s right room q after

-- IN THE PARTS: the function part by the spine's order, then the argument if the order is eager
module _ {o : Order} {depth : ℕ} {l r : Term} {s : State} {room : List ℕ} (ready : Ready (app l r) room depth s)
    {right : ℕ} {p : State} {mid : List ℕ} (spun : SpineRun o depth s right room p mid) where
  abbrev parted : Parted o depth (started (app l r) s room) l r (link room s.node % 4294967296) right s room
  parted = begun o refl spun.right_is ready

  abbrev spine-place : Frame o (spine o) (λ m. app m r) Always depth (nodes (app l r) + s.spare) (depth + 1)
      (nodes l + s.spare)
  spine-place = at_spine parted spun.run.fit

  pub spine-ran : Ran (spine o) (depth + 1) (started l (placed s (link room s.node % 4294967296)) room) p mid
  spine-ran = spun.run.runs.ran l (left_asks parted)

  pub spine_halts : (p.stop ≡ stopped.Rested → ⊥)
      → Halts o depth (started (app l r) s room) spine-ran.term r p.node right p mid
  spine_halts going =
      left_halts parted spine-ran spine-place always (λ e. absurd (going e))

  stepped_on : Parted o depth (started (app l r) s room) spine-ran.term r p.node right p mid
  stepped_on = left_then parted spine-ran spine-place always

  pub spine-here : p.stop ≡ stopped.Rested → eager o ≡ false
      → Here o depth (started (app l r) s room) spine-ran.term r s.node p.node right p mid
  spine-here zero lazy = record {
    parted = stepped_on;
    at_whole = refl;
    at_rest = zero;
    stuck = rests spine-ran.stops zero;
    unless = λ e. absurd (false≢true (sym lazy ∙ e));
  }

  pub early_asks : Ready r mid (depth + 1) (placed p right)
  early_asks = right_asks stepped_on

  module _ {q : State} {after : List ℕ} (early : ArgumentRun (eager o) o depth p right mid q after) where
    abbrev early_place : Frame o o (app spine-ran.term) Always depth (nodes (app l r) + s.spare) (depth + 1)
        (nodes r + p.spare)
    early_place =
        at_early stepped_on early.run.fit (rests spine-ran.stops early.at_rest) early.on

    pub early_ran : Ran o (depth + 1) (started r (placed p right) mid) q after
    early_ran = early.run.runs.ran r early_asks

    pub early_halts : (q.stop ≡ stopped.Rested → ⊥) → Halts o depth (started (app l r) s room) spine-ran.term
        early_ran.term p.node q.node q after
    early_halts going =
        right_halts stepped_on early_ran early_place always (λ e. absurd (going e))

    pub early_here : q.stop ≡ stopped.Rested → Here o depth (started (app l r) s room) spine-ran.term early_ran.term
        s.node p.node q.node q after
    early_here zero = record {
      parted = right_then stepped_on early_ran early_place always;
      at_whole = refl;
      at_rest = zero;
      stuck = rests spine-ran.stops early.at_rest;
      unless = λ e. rests early_ran.stops zero;
    }

-- WHAT IS LEFT TO A HYBRID ORDER: the function part, then the argument if the order is late
module _ {o : Order} {depth whole left right : ℕ} {a : Start} {l r : Term} {s : State} {room : List ℕ}
    (resting : Resting o depth a l r whole left right s room) where
  abbrev so_far : Parted o depth a l r left right s room
  so_far = resting.parted

  neutral : Neutral o l
  neutral = record { stuck = resting.stuck; not_lam = resting.not_lam }

  pub function_asks : Rested o l room (depth + 1) (placed s left)
  function_asks = record { ready = left_asks so_far; stuck = resting.stuck; is_hybrid = resting.is_hybrid }

  module _ {p : State} {mid : List ℕ} (run : FurtherRun o depth s left room p mid) where
    abbrev left-place : Frame o o (λ m. app m r) (Neutral o) depth (most a) (depth + 1) (nodes l + s.spare)
    left-place = at_left so_far run.fit resting.unless resting.is_hybrid

    pub left-ran : Ran o (depth + 1) (started l (placed s left) room) p mid
    left-ran = run.ran l function_asks

    still_neutral : Neutral o left-ran.term
    still_neutral = (lifted (λ m. app m r) left-place neutral left-ran.way).1

    pub function_halts : (p.stop ≡ stopped.Rested → late o ≡ false) → Halts o depth a left-ran.term r p.node right p mid
    function_halts last =
        left_halts so_far left-ran left-place neutral
        (λ e. rests-hybrid o r still_neutral resting.unless (rests left-ran.stops e)
        (λ later. absurd (false≢true (sym (last e) ∙ later))))

    reduced : Parted o depth a left-ran.term r p.node right p mid
    reduced = left_then so_far left-ran left-place neutral

    pub late_asks : Ready r mid (depth + 1) (placed p right)
    late_asks = right_asks reduced

    module _ {q : State} {after : List ℕ} (late_run : ArgumentRun (late o) o depth p right mid q after) where
      pub late-ran : Ran o (depth + 1) (started r (placed p right) mid) q after
      late-ran = late_run.run.runs.ran r late_asks

      pub late_halts : Halts o depth a left-ran.term late-ran.term p.node q.node q after
      late_halts =
          let stuck = rests left-ran.stops late_run.at_rest in
          right_halts reduced late-ran (at_late reduced late_run.run.fit still_neutral stuck late_run.on) always
          (λ e. let last = rests late-ran.stops e in
          rests-hybrid o late-ran.term still_neutral (λ early. last) stuck (λ late. last))

-- WHERE THE SPINE'S ORDER RESTS, in an application
module _ {o : Order} {depth : ℕ} {l r : Term} {s : State} {room : List ℕ} (rested : Rested o (app l r) room depth s)
    {left right : ℕ} (left_is : left ≡ link room s.node % 4294967296)
    (right_is : right ≡ link room s.node / 4294967296) where
  abbrev untouched : Parted o depth (started (app l r) s room) l r left right s room
  untouched = begun o left_is right_is rested.ready

  -- then it does in the function part, which is no abstraction, and in the argument if eager
  spine-stuck : Stuck (spine o) l × NotLam l × Unless (eager o) (step (spine o) r)
  spine-stuck = spine-rests o l r rested.stuck

  pub rest_at_once : eager o ≡ false → Resting o depth (started (app l r) s room) l r s.node left right s room
  rest_at_once lazy = record {
    parted = untouched;
    at_whole = refl;
    stuck = spine-stuck.0;
    unless = λ e. absurd (false≢true (sym lazy ∙ e));
    not_lam = spine-stuck.1;
    is_hybrid = rested.is_hybrid;
  }

  module _ (on : eager o ≡ true) where
    pub argument_asks : Rested o r room (depth + 1) (placed s right)
    argument_asks = record {
      ready = right_asks untouched;
      stuck = spine-stuck.2 on;
      is_hybrid = rested.is_hybrid;
    }

    module _ {q : State} {after : List ℕ} (run : FurtherRun o depth s right room q after) where
      abbrev argument-place : Frame o o (app l) Always depth (nodes (app l r) + s.spare) (depth + 1)
          (nodes r + s.spare)
      argument-place = at_early untouched run.fit spine-stuck.0 on

      pub argument-ran : Ran o (depth + 1) (started r (placed s right) room) q after
      argument-ran = run.ran r argument_asks

      pub argument_halts : (q.stop ≡ stopped.Rested → ⊥)
          → Halts o depth (started (app l r) s room) l argument-ran.term left q.node q after
      argument_halts going = right_halts untouched argument-ran argument-place always (λ e. absurd (going e))

      pub rest-after : q.stop ≡ stopped.Rested
          → Resting o depth (started (app l r) s room) l argument-ran.term s.node left q.node q after
      rest-after zero = record {
        parted = right_then untouched argument-ran argument-place always;
        at_whole = refl;
        stuck = spine-stuck.0;
        unless = λ e. rests argument-ran.stops zero;
        not_lam = spine-stuck.1;
        is_hybrid = rested.is_hybrid;
      }

-- a node that is an application
module _ {o : Order} {depth : ℕ} {t : Term} {s : State} {room : List ℕ} (rested : Rested o t room depth s) {found : Node}
    (told : found ≡ node_in (word room s.node) (link room s.node)) {m n : ℕ} (is : found ≡ Application m n) where
  pub forked : HeldApplication room s.node m n t
  forked = held-application room s.node told t rested.ready.holds is

  pub as_application : Rested o (app forked.left forked.right) room depth s
  as_application = rw forked.same at rested

  pub as_it_was : {q : State} {after : List ℕ}
      → Ran o depth (started (app forked.left forked.right) s room) q after
      → Ran o depth (started t s room) q after
  as_it_was ran = rw forked.same ran
