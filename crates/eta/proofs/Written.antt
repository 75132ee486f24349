-- Writing a named term: at each kind of node, what the calls ask and what they come to.
use Prim.Native.Nat.{ℕ, ◌+◌, ◌-◌, ◌≤◌, ◌<◌}
use mathlib.Core.Path.{◌≡◌, refl, ap, ◌∙◌}
use mathlib.Core.List.{List, [], ◌∷◌, ◌++◌}
use native.Mathlib.Omega.{arith}
use lib.ListN.{length, set, get_or, length-set}
use lib.Seq.{get_or-set_other}
use borrow.Author.Tests.{eq-eqb, ne_eqb}
use Rattle.calculus.specs.Term.{var, height}
use Rattle.calculus.specs.Bounds.{most_height, greatest_number}
use Rattle.calculus.specs.Bytes.{digits, encode}
use Rattle.calculus.proofs.Measures.{height_positive}
use Rattle.calculus.proofs.Sizes.{size, length-encode}
use Rattle.calculus.proofs.Putting.{Puts, puts_then, puts-length}
use Rattle.nodes.proofs.Coding.{one_put}
use Rattle.eta.specs.Named.{Named, place, plain, rise}
use Rattle.eta.specs.Scope.{Scoped}
use Rattle.eta.specs.Store.{Names, node_at}
use Rattle.eta.specs.declared.named.Binder.{Binder}
use Rattle.eta.specs.declared.named.Node.TheVariants as read
use Rattle.eta.specs.Writing.{Placed, Writable, Writes}
use Rattle.eta.proofs.Parts.{named-bound, named-free, named-abstraction, named-application}
use Rattle.eta.proofs.Scoping.{bound-scoped, body-scoped, parts-scoped}
use Rattle.eta.proofs.Placing.{placed-under, placed-kept}

-- A VARIABLE'S kind is put, then its index
pub variable-put : {out after : List ℕ} {at to : ℕ} (i : ℕ) → Puts (set out at 1) (at + 1) (digits 7 i) to after
    → Puts out at (encode (var i)) to after
unfolding encode
variable-put i put = puts_then (1 ∷ []) (digits 7 i) (one_put 1 refl) put

pub written-length : {room : List ℕ} {node : ℕ} {out : List ℕ} {at : ℕ} {places : List ℕ} {depth to : ℕ}
    {after places' : List ℕ} → Writable room node out at places depth
    → Writes room node out at places depth to after places' → length after ≡ length out
written-length asked writes =
    puts-length _
    (writes.written asked.term asked.around asked.names asked.scoped asked.deep asked.placed)

-- whatever the node is, it is this variable
pub record IsVariable (room : List ℕ) (node : ℕ) (places : List ℕ) (depth i : ℕ) : Type 0 where
  pub same : (t : Named) (around : List ℕ) → Names room t node → Scoped around t → length around ≡ depth
      → Placed places around → plain around t ≡ var i

module _ {room : List ℕ} {node : ℕ} {places : List ℕ} {depth : ℕ} where
  module _ {i : ℕ} (is : IsVariable room node places depth i) {out : List ℕ} {at : ℕ} where
    pub variable-fits : Writable room node out at places depth → at + 9 ≤ length out
    unfolding size
    variable-fits asked =
        let e = is.same asked.term asked.around asked.names asked.scoped asked.deep asked.placed in
        omega (arith, asked.fits, ap size e)

    pub at_variable : {to : ℕ} {after : List ℕ} → Puts out at (encode (var i)) to after
        → Writes room node out at places depth to after places
    at_variable put = record {
      written = λ t around h sc deep now. rw (is.same t around h sc deep now) put;
      kept = λ t around h sc k lt. refl;
      as_long = refl;
    }

  -- A BOUND VARIABLE: what stands at its binder's level is how many binders are around that
  module _ {k : ℕ} (kind : node_at room node ≡ read.Bound k) where
    pub bound_asks : {out : List ℕ} {at : ℕ} → Writable room node out at places depth
        → (k < length places) × (get_or places k 0 ≤ depth)
    bound_asks asked =
        let now = asked.placed in
        let among = bound-scoped room node asked.term asked.around asked.scoped kind asked.names in (
          omega (arith, now.rising k among, now.low),
          omega (arith, now.placed k among, asked.deep),
        )

    pub is_bound : IsVariable room node places depth (depth - get_or places k 0)
    unfolding plain
    is_bound = record {
      same = λ t around h sc deep now.
          let among = bound-scoped room node t around sc kind h in
          let e : place k around ≡ depth - get_or places k 0 =
          omega (arith, now.placed k among) in
          rw (named-bound room node t kind h) (ap var e);
    }

  -- A FREE VARIABLE, or index 0
  module _ {j : ℕ} (kind : node_at room node ≡ read.Free j) where
    pub is_zero : j ≡ 0 → IsVariable room node places depth 0
    unfolding plain
    is_zero none = record {
      same = λ t around h sc deep now. rw (named-free room node t kind h, eq-eqb j 0 none);
    }

    module _ (some : j ≡ 0 → ⊥) where
      pub is_free : IsVariable room node places depth (j + depth)
      unfolding plain
      is_free = record {
        same = λ t around h sc deep now.
            let index = ap (λ d. var (j + d)) deep in
            rw (named-free room node t kind h, ne_eqb j 0 some) index;
      }

      pub free_asks : {out : List ℕ} {at : ℕ} → Writable room node out at places depth
          → j + depth ≤ greatest_number
      unfolding Scoped
      free_asks asked =
          let e = named-free room node asked.term kind asked.names in
          let low : j + length asked.around ≤ greatest_number = rw e at asked.scoped in
          omega (arith, asked.deep)

  -- AN ABSTRACTION: at its level is put how many binders are around
  module _ {binder : Binder} {x : ℕ} (kind : node_at room node ≡ read.Abstraction binder x) where
    pub body_below : {out : List ℕ} {at : ℕ} → Writable room node out at places depth → x < node
    body_below asked = (named-abstraction room node asked.term kind asked.names).below

    pub binder_asks : {out : List ℕ} {at : ℕ} → Writable room node out at places depth
        → (at + 1 ≤ length out) × (binder.level < length places) × (depth < most_height)
    unfolding size plain rise
    binder_asks asked =
        let v = named-abstraction room node asked.term kind asked.names in
        let u = body-scoped room node asked.term asked.around asked.scoped kind asked.names in
        let e = ap (plain asked.around) v.same in (
          omega (arith, asked.fits, ap size e),
          omega (arith, u, asked.levels, ap rise v.same),
          omega (arith, asked.low, height_positive (plain asked.around asked.term)),
        )

    pub body_asks : {out : List ℕ} {at : ℕ} → Writable room node out at places depth
        → Writable room x (set out at 2) (at + 1) (set places binder.level depth) (depth + 1)
    unfolding size height plain rise
    body_asks {out} {at} asked =
        let v = named-abstraction room node asked.term kind asked.names in
        let u = body-scoped room node asked.term asked.around asked.scoped kind asked.names in
        let e = ap (plain asked.around) v.same in
        let inside : binder.level < length places = omega (arith, asked.levels, ap rise v.same) in
        record {
          term = v.body;
          around = binder.level ∷ asked.around;
          names = v.names;
          inside = omega (arith, asked.inside, v.below);
          scoped = u.scoped;
          deep = omega (arith, asked.deep);
          low = omega (arith, asked.low, ap height e);
          placed = placed-under binder.level u.above inside asked.deep asked.placed;
          levels = omega (arith, asked.levels, ap rise v.same, length-set places binder.level depth);
          fits = omega (arith, asked.fits, ap size e, length-set out at 2);
        }

    pub at_binder : {out : List ℕ} {at to : ℕ} {after places' : List ℕ} → binder.level < length places
        → Writes room x (set out at 2) (at + 1) (set places binder.level depth) (depth + 1) to
        after places'
        → Writes room node out at places depth to after places'
    unfolding encode plain
    at_binder inside writes = record {
      written = λ t around h sc deep now.
          let v = named-abstraction room node t kind h in
          let u = body-scoped room node t around sc kind h in
          let put = writes.written v.body (binder.level ∷ around) v.names u.scoped (omega arith)
          ((placed-under binder.level u.above (omega (arith, u)) deep now)) in
          rw v.same (puts_then (2 ∷ []) (encode (plain (binder.level ∷ around) v.body)) (one_put 2 refl) put);
      kept = λ t around h sc k lt.
          let v = named-abstraction room node t kind h in
          let u = body-scoped room node t around sc kind h in
          writes.kept v.body (binder.level ∷ around) v.names u.scoped k (omega (arith, u))
          ∙ get_or-set_other places binder.level k depth 0 (λ e. omega (arith, u));
      as_long = writes.as_long ∙ length-set places binder.level depth;
    }

  -- AN APPLICATION
  module _ {l r : ℕ} (kind : node_at room node ≡ read.Application l r) where
    pub application_asks : {out : List ℕ} {at : ℕ} → Writable room node out at places depth
        → (at + 1 ≤ length out) × (l < node) × (r < node)
    unfolding size plain
    application_asks asked =
        let v = named-application room node asked.term kind asked.names in
        let e = ap (plain asked.around) v.same in
        (omega (arith, asked.fits, ap size e), v.left_below, v.right_below)

    pub left_asks : {out : List ℕ} {at : ℕ} → Writable room node out at places depth
        → Writable room l (set out at 3) (at + 1) places depth
    unfolding size height plain rise
    left_asks {out} {at} asked =
        let v = named-application room node asked.term kind asked.names in
        let (scoped, _) = parts-scoped room node asked.term asked.around asked.scoped kind asked.names in
        let e = ap (plain asked.around) v.same in
        record {
          term = v.left;
          around = asked.around;
          names = v.left_names;
          inside = omega (arith, asked.inside, v.left_below);
          scoped = scoped;
          deep = asked.deep;
          low = omega (arith, asked.low, ap height e);
          placed = asked.placed;
          levels = omega (arith, asked.levels, ap rise v.same);
          fits = omega (arith, asked.fits, ap size e, length-set out at 3);
        }

    module _ {out : List ℕ} {at next : ℕ} {mid places₁ : List ℕ}
        (first : Writes room l (set out at 3) (at + 1) places depth next mid places₁) where
      pub right_asks : Writable room node out at places depth
          → Writable room r mid next places₁ depth
      unfolding size height plain rise
      right_asks asked =
          let around = asked.around in
          let v = named-application room node asked.term kind asked.names in
          let scoped = parts-scoped room node asked.term around asked.scoped kind asked.names in
          let e = ap (plain around) v.same in
          let put = first.written v.left around v.left_names scoped.0 asked.deep asked.placed in
          let bytes = length-encode (plain around v.left) in
          record {
            term = v.right;
            around = around;
            names = v.right_names;
            inside = omega (arith, asked.inside, v.right_below);
            scoped = scoped.1;
            deep = asked.deep;
            low = omega (arith, asked.low, ap height e);
            placed = placed-kept first.as_long (first.kept v.left around v.left_names scoped.0)
                asked.placed;
            levels = omega (arith, asked.levels, ap rise v.same, first.as_long);
            fits = omega (
              arith,
              asked.fits,
              ap size e,
              put.reached,
              puts-length _ put,
              length-set out at 3,
            );
          }

      pub at_application : {to : ℕ} {after places₂ : List ℕ}
          → Writes room r mid next places₁ depth to after places₂
          → Writes room node out at places depth to after places₂
      unfolding encode plain
      at_application second = record {
        written = λ t around h sc deep now.
            let v = named-application room node t kind h in
            let (left_scoped, right_scoped) = parts-scoped room node t around sc kind h in
            let l_bytes = encode (plain around v.left) in
            let r_bytes = encode (plain around v.right) in
            let left_put = first.written v.left around v.left_names left_scoped deep now in
            let still = placed-kept first.as_long (first.kept v.left around v.left_names left_scoped) now in
            let right_put = second.written v.right around v.right_names right_scoped deep still in
            rw v.same (puts_then (3 ∷ []) (l_bytes ++ r_bytes) (one_put 3 refl) (puts_then l_bytes r_bytes left_put right_put));
        kept = λ t around h sc k lt.
            let v = named-application room node t kind h in
            let (left_scoped, right_scoped) = parts-scoped room node t around sc kind h in
            second.kept v.right around v.right_names right_scoped k lt
            ∙ first.kept v.left around v.left_names left_scoped k lt;
        as_long = second.as_long ∙ first.as_long;
      }
