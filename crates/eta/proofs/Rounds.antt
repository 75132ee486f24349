-- Shrinking a named term: at each kind of node, what the calls ask and what they come to.
use Rattle.std.specs.Prelude.{Option, Some, None}
use Prim.Native.Nat.{ℕ, suc, ◌+◌, ◌≤◌, ◌<◌}
use mathlib.Core.Path.{◌≡◌, refl, sym, ◌∙◌, ap}
use mathlib.Core.Logic.{◌⊎◌, inl, inr}
use mathlib.Core.Bool.{Bool, true, false, ◌&&◌, and-false, false≢true}
use mathlib.Core.List.{List}
use native.Mathlib.Omega.{arith}
use lib.ListN.{length}
use Rattle.calculus.specs.Eta.{may_follow}
use Rattle.nodes.specs.Store.{Same}
use Rattle.nodes.proofs.Keeping.{same_refl, same_then}
use Rattle.eta.specs.Named.{Named, binds, joins, weight, lone}
use Rattle.eta.specs.Shrinking.{Came, shrunk, ends_in, applied}
use Rattle.eta.specs.Store.{Names, node_at}
use Rattle.eta.specs.declared.named.Binder.{Binder}
use Rattle.eta.specs.declared.named.Node.TheVariants as read
use Rattle.eta.specs.Shrinks.{State, Shrinkable, Shrinks, StandsFor, Checkable, Contracts, Joinable, Joins}
use Rattle.eta.specs.Shrinks.{Bindable, Binds}
use Rattle.eta.proofs.Kept.{names-kept}
use Rattle.eta.proofs.Parts.{Abstraction, Application, named-bound, named-free, named-abstraction, named-application}
use Rattle.eta.proofs.Readiness.{lighter-place}
use Rattle.eta.proofs.Ways.{lone-shrunk, steps-shrunk, shrunk-binds, shrunk-place}

stands-kept : {xs ys : List ℕ} {u : ℕ} {r : State} (c : Came) → Same xs ys u → r.used ≤ u → StandsFor xs r c
    → StandsFor ys r c
stands-kept {r = r} c same le h = record {
  steps = h.steps;
  names = names-kept c.1 r.node same (omega (arith, h.below)) h.names;
  left = h.left;
  below = h.below;
}

-- an abstraction waits for its body if it is no place or no step may follow
pub data Waits : Option ℕ → Bool → Type 0 where
  no-place : {found : Option ℕ} {more : Bool} → found ≡ None → Waits found more
  no_more : {found : Option ℕ} {more : Bool} → more ≡ false → Waits found more

pub waits-none : {found : Option ℕ} {more : Bool} → ((m : ℕ) → found ≡ Some m → ⊥) → Waits found more
waits-none {found = None} other = no-place refl
waits-none {found = Some m} other = absurd (other m refl)

both-true : (p q : Bool) {r : Bool} → (p && q) ≡ true → r ≡ true → (p && q && r) ≡ true
both-true true q e f = rw (e, f)
both-true false q e f = absurd (false≢true e)

-- no steps are made at a variable
still : (xs : List ℕ) (n : ℕ) (more : ℕ → Bool) (steps : ℕ) (t : Named)
    → ((k : ℕ) × (node_at xs n ≡ read.Bound k)) ⊎ ((j : ℕ) × (node_at xs n ≡ read.Free j)) → Names xs t n
    → shrunk more steps t ≡ (steps, t, false)
unfolding shrunk
still xs n more steps t (inl (k, is)) h = rw (named-bound xs n t is h)
still xs n more steps t (inr (j, is)) h = rw (named-free xs n t is h)

module _ {room : List ℕ} {node used steps limit : ℕ} where
  -- what was made of the term that a call is given: no more nodes and steps than it weighs
  few-made : {r : State} {after : List ℕ} (t : Named) → Names room t node → Shrinks room node used steps limit r after
      → (r.used ≤ used + weight t) × (r.steps ≤ steps + weight t) × (length after ≡ length room)
  few-made t h done = (
    done.most t h,
    omega (arith, (done.comes t h).steps, steps-shrunk (may_follow limit) steps t),
    done.same.as_long,
  )

module _ {room : List ℕ} {node used steps : ℕ} (asked : Shrinkable room node used steps) where
  -- A VARIABLE
  pub at_variable : {limit : ℕ} → ((k : ℕ) × (node_at room node ≡ read.Bound k)) ⊎ ((j : ℕ) × (node_at room node ≡ read.Free j))
      → Shrinks room node used steps limit (record { node = node; used = used; steps = steps; left = false }) room
  at_variable {limit} var = record {
    comes = λ t h. rw (still room node (may_follow limit) steps t var h) (record {
      steps = refl;
      names = h;
      left = refl;
      below = asked.below;
    });
    most = λ t h. omega arith;
    grows = omega arith;
    same = same_refl room used;
  }

  -- what a call asks for a part that has a smaller number: no more nodes and steps than were asked for the whole
  part_asks : {mid : List ℕ} {n used' steps' : ℕ} (part : Named) → n < node → Names mid part n
      → length mid ≡ length room → used ≤ used' → used' + weight part ≤ used + weight asked.term
      → steps' + weight part ≤ steps + weight asked.term → (n < node) × Shrinkable mid n used' steps'
  part_asks part lower names long grown few slow = (
    lower,
    record {
      term = part;
      names = names;
      below = omega (arith, asked.below);
      fits = omega (arith, asked.fits);
      few = omega (arith, asked.few);
      counted = omega (arith, asked.counted);
    },
  )

  -- AN APPLICATION
  module _ {m n : ℕ} (joined : node_at room node ≡ read.Application m n) where
    parts : Application room node m n asked.term
    parts = named-application room node asked.term joined asked.names

    pub left_asks : (m < node) × Shrinkable room m used steps
    unfolding weight
    left_asks =
        let heavier = ap weight parts.same in
        part_asks parts.left parts.left_below parts.left_names refl (omega arith) (omega arith)
        (omega arith)

    module _ {limit : ℕ} {left : State} {mid : List ℕ} (first : Shrinks room m used steps limit left mid) where
      right_names : {t : Named} (v : Application room node m n t) → Names mid v.right n
      right_names v =
          names-kept v.right n first.same (omega (arith, asked.below, v.right_below)) v.right_names

      pub right_asks : (n < node) × Shrinkable mid n left.used left.steps
      unfolding weight
      right_asks =
          let (used_few, steps_few, long) = few-made parts.left parts.left_names first in
          let heavier = ap weight parts.same in
          part_asks parts.right parts.right_below (right_names parts) long first.grows
          (omega arith) (omega arith)

      module _ {right : State} {end : List ℕ} (second : Shrinks mid n left.used left.steps limit right end) where
        both_same : Same room end used
        both_same = same_then first.grows first.same second.same

        whole-kept : {t : Named} (v : Application room node m n t) → Names room t node
            → Names end (joins v.left v.right) node
        whole-kept {t} v h = rw (sym v.same) (names-kept t node both_same asked.below h)

        both_made : {t : Named} → Application room node m n t → right.used < used + weight t
        unfolding weight
        both_made v =
            let l_made = first.most v.left v.left_names in
            omega (arith, ap weight v.same, second.most v.right (right_names v))

        pub join_asks : Joinable end node left.node right
        join_asks = record {
          left_term = parts.left;
          right_term = parts.right;
          names = whole-kept parts asked.names;
          below = omega (arith, asked.below, first.grows, second.grows);
          left_below = omega (arith, (first.comes parts.left parts.left_names).below, second.grows);
          right_below = (second.comes parts.right (right_names parts)).below;
          fits = omega (arith, asked.fits, both_same.as_long, both_made parts);
          few = omega (arith, asked.few, both_made parts);
        }

        pub at_application : {r : State} {after : List ℕ} → Joins end node left right r after
            → Shrinks room node used steps limit r after
        unfolding shrunk
        at_application done = record {
          comes = λ t h.
              let v = named-application room node t joined h in
              let c = shrunk (may_follow limit) steps v.left in
              let d = shrunk (may_follow limit) c.0 v.right in
              let l_came = first.comes v.left v.left_names in
              let r_came : StandsFor end right d =
              rw (sym l_came.steps) (second.comes v.right (right_names v)) in
              let l_kept = stands-kept c second.same (omega arith) l_came in
              rw v.same (done.comes c d l_kept r_came);
          most = λ t h. omega (arith, both_made (named-application room node t joined h), done.most);
          grows = omega (arith, first.grows, second.grows, done.grows);
          same = same_then (omega (arith, first.grows, second.grows)) both_same done.same;
        }

  -- AN ABSTRACTION
  module _ {binder : Binder} {x : ℕ} (is : node_at room node ≡ read.Abstraction binder x) where
    body : Abstraction room node binder x asked.term
    body = named-abstraction room node asked.term is asked.names

    pub contracted_asks : Checkable room x
    contracted_asks = record {
      term = body.body;
      names = body.names;
      inside = omega (arith, asked.below, asked.fits, body.below);
    }

    pub body_asks : (x < node) × Shrinkable room x used steps
    unfolding weight
    body_asks =
        let heavier = ap weight body.same in
        part_asks body.body body.below body.names refl (omega arith) (omega arith) (omega arith)

    module _ {limit : ℕ} {done : State} {mid : List ℕ} (first : Shrinks room x used steps limit done mid) where
      whole : {t : Named} (v : Abstraction room node binder x t) → Names room t node
          → Names mid (binds binder.level v.body) node
      whole {t} v h = rw (sym v.same) (names-kept t node first.same asked.below h)

      pub bind_asks : binder.level < 2305843009213693952 → Bindable mid node binder done
      unfolding weight
      bind_asks packable =
          let (used_few, steps_few, long) = few-made body.body body.names first in
          let heavier = ap weight body.same in
          record {
            body_term = body.body;
            names = whole body asked.names;
            packable = packable;
            came = shrunk (may_follow limit) steps body.body;
            stands = first.comes body.body body.names;
            below = omega (arith, asked.below, first.grows);
            fits = omega (arith, asked.fits);
            few = omega (arith, asked.few);
            counted = omega (arith, asked.counted);
          }

    module _ {found : Option ℕ} (tells : Contracts room binder x found) where
      -- ONE THAT GOES
      module _ {m : ℕ} (some : found ≡ Some m) where
        pub place_asks : (m < node) × Shrinkable room m used (steps + 1)
        unfolding weight
        place_asks =
            let (place, below, names) = tells.goes m some body.body body.names in
            let lighter = lighter-place binder.level binder.linear body.body place in
            let heavier = ap weight body.same in
            part_asks (applied body.body) (omega (arith, body.below)) names refl (omega arith) (omega arith)
            (omega arith)

        pub at_place : {limit : ℕ} {r : State} {after : List ℕ} → may_follow limit steps ≡ true
            → Shrinks room m used (steps + 1) limit r after → Shrinks room node used steps limit r after
        unfolding weight
        at_place {limit} more done = record {
          comes = λ t h.
              let v = named-abstraction room node t is h in
              let (place, _, names) = tells.goes m some v.body v.names in
              let ends = ends_in binder.level v.body in
              let told = both-true (lone binder.level v.body) ends (ap (λ l. l && ends) (sym v.linear_is) ∙ place) more in
              let goes = shrunk-place (may_follow limit) steps binder.level v.body told in
              let next : suc steps ≡ steps + 1 = omega arith in
              rw (v.same, goes, next) (done.comes (applied v.body) names);
          most = λ t h.
              let v = named-abstraction room node t is h in
              let (place, _, names) = tells.goes m some v.body v.names in
              let lighter = lighter-place binder.level binder.linear v.body place in
              omega (arith, done.most (applied v.body) names, ap weight v.same);
          grows = done.grows;
          same = done.same;
        }

      -- ONE THAT WAITED for its body: it is no place, or no step may follow
      pub at_abstraction : {limit : ℕ} {done r : State} {mid after : List ℕ}
          → Waits found (may_follow limit steps) → Shrinks room x used steps limit done mid
          → Binds mid node binder done limit r after → Shrinks room node used steps limit r after
      unfolding weight
      at_abstraction {limit} waits first binds_it = record {
        comes = λ t h.
            let v = named-abstraction room node t is h in
            let more = may_follow limit in
            let stays = shrunk-binds more steps binder.level v.body (waits-there waits v) in
            let c = shrunk more steps v.body in
            let alike = lone-shrunk more binder.level steps v.body in
            rw (v.same, stays)
            (binds_it.comes v.body c (whole first v h) v.linear_is (first.comes v.body v.names) alike);
        most = λ t h.
            let v = named-abstraction room node t is h in
            omega (arith, first.most v.body v.names, binds_it.most, ap weight v.same);
        grows = omega (arith, first.grows, binds_it.grows);
        same = same_then first.grows first.same binds_it.same;
      }
        where
          waits-there : {more : Bool} {t : Named} → Waits found more → (v : Abstraction room node binder x t)
              → (lone binder.level v.body && ends_in binder.level v.body && more) ≡ false
          waits-there (no-place e) v = rw (sym v.linear_is, tells.stays e v.body v.names)
          waits-there (no_more e) v = rw e (simp and-false)
