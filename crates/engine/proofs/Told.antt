-- An answer is a node and why a run stopped there: what it tells.
use Prim.Native.Nat.{ℕ}
use mathlib.Core.Path.{◌≡◌, refl, sym}
use mathlib.Core.List.{List}
use Rattle.calculus.specs.Term.{Term}
use Rattle.calculus.specs.Orders.{Order}
use Rattle.engine.specs.Running.{Start, Kept, unmoved, moved}
use Rattle.engine.specs.Joining.{Joined, Parts, Parted, Here, Resting}
use Rattle.engine.specs.States.{State, lent, told, placed, renoded}
use Rattle.engine.specs.declared.Stop.{Stop}
use Rattle.engine.specs.declared.At.{At}
use Rattle.engine.specs.declared.Work.{Work}
use Rattle.engine.proofs.Runs.{Gone}

pub told_is : {node : ℕ} {stop : Stop} {work : Work} → told (record { node = node; stop = stop }) work
    ≡ record { node = node; used = work.used; budget = work.budget; spare = work.spare; stop = stop }
told_is = refl

-- a node made again, answered with the same reason to stop
pub joined-told : {steps depth n u next node : ℕ} {stop : Stop} {a : Start} {t : Term} (p : At) (work : Work)
    {after : List ℕ} → p.stop ≡ stop
    → Joined steps depth a t (renoded (told p work) n u) (renoded (renoded (told p work) n u) node next) after
    → Joined steps depth a t (told p work) (told (record { node = node; stop = stop })
    (record { used = next; budget = work.budget; spare = work.spare })) after
joined-told p work is joined = rw (sym is) (record {
  holds = joined.holds;
  below = joined.below;
  grows = joined.grows;
  inside = joined.inside;
  kept = joined.kept;
  same = joined.same;
  budget_same = refl;
  spare_same = refl;
  stop_same = refl;
})

-- AN APPLICATION UNDER WAY: no law looks at the node of its state, nor at why the last run stopped
pub parts_at : {steps depth left right m n used : ℕ} {a : Start} {l r : Term} {room : List ℕ} → left ≡ m → right ≡ n
    → Parts steps depth a l r m n used room → Parts steps depth a l r left right used room
parts_at left_is right_is parts = rw (left_is, right_is) parts

parted-lent : {o : Order} {depth left right : ℕ} {a : Start} {l r : Term} {s : State} {room : List ℕ}
    → Parted o depth a l r left right s room → Parted o depth a l r left right (lent (record { used = s.used; budget = s.budget; spare = s.spare })) room
parted-lent parted = record {
  steps = parted.steps;
  way = parted.way;
  count = parted.count;
  size = parted.size;
  few = parted.few;
  deep = parted.deep;
  parts = parted.parts;
}

module _ {o : Order} {depth whole left right : ℕ} {a : Start} {l r : Term} {s : State} {room : List ℕ} where
  pub here-lent : Here o depth a l r whole left right s room
      → Here o depth a l r whole left right (lent (record { used = s.used; budget = s.budget; spare = s.spare })) room
  here-lent here = record {
    parted = parted-lent here.parted;
    at_whole = here.at_whole;
    at_rest = refl;
    stuck = here.stuck;
    unless = here.unless;
  }

  pub resting-lent : Resting o depth a l r whole left right s room
      → Resting o depth a l r whole left right (lent (record { used = s.used; budget = s.budget; spare = s.spare })) room
  resting-lent resting = record {
    parted = parted-lent resting.parted;
    at_whole = resting.at_whole;
    stuck = resting.stuck;
    unless = resting.unless;
    not_lam = resting.not_lam;
    is_hybrid = resting.is_hybrid;
  }

kept-placed : {steps depth first begun long : ℕ} {s : State} → Kept steps depth first begun s long
    → Kept steps depth first begun (placed s s.node) long
kept-placed (unmoved none_made n u) = unmoved none_made n u
kept-placed (moved some space) = moved some space

-- the steps so far, to go on from
pub gone_placed : {o : Order} {depth : ℕ} {a : Start} {s : State} {room : List ℕ} → Gone o depth a s room
    → Gone o depth a (placed s s.node) room
gone_placed gone = record {
  term = gone.term;
  steps = gone.steps;
  way = gone.way;
  count = gone.count;
  size = gone.size;
  deep = gone.deep;
  holds = gone.holds;
  below = gone.below;
  grows = gone.grows;
  inside = gone.inside;
  kept = kept-placed gone.kept;
  same = gone.same;
}
