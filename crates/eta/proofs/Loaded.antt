-- Loading a named term: at each head, what the calls ask and what they come to.
use Rattle.std.specs.Prelude.{Some}
use Prim.Native.Nat.{ℕ, ◌+◌, ◌-◌, ◌*◌, ◌≤◌, ◌<◌}
use mathlib.Core.Path.{◌≡◌, refl, ap, ◌∙◌}
use mathlib.Core.Bool.{Bool, ◌&&◌, ◌||◌, not}
use mathlib.Core.List.{List}
use native.Mathlib.Omega.{arith}
use native.Mathlib.Numerals.{add-one}
use lib.Dec.{eqb}
use lib.ListN.{length, set, get_or, drop, length-set}
use Rattle.calculus.specs.Term.{Term, var, lam, nodes, height}
use Rattle.calculus.specs.Bounds.{most_nodes, most_height}
use Rattle.calculus.proofs.Measures.{nodes_positive, height_positive}
use Rattle.calculus.proofs.Sizes.{size, size_positive}
use Rattle.term.specs.Heads.{head_in}
use Rattle.term.specs.Surveys.{Stands}
use Rattle.term.specs.declared.Head.TheVariants.{Variable, Abstraction, Application}
use Rattle.term.proofs.Places.{is-variable, is-abstraction, is-application, size-within}
use Rattle.nodes.specs.Store.{Same}
use Rattle.nodes.proofs.Keeping.{same_then}
use Rattle.eta.specs.Named.{binds, named, uses, has_zero}
use Rattle.eta.specs.Store.{Names, binder_word}
use Rattle.eta.specs.Naming.{Counts, Countable, Nameable, Reads}
use Rattle.eta.specs.declared.naming.Read.{Read}
use Rattle.eta.proofs.Kept.{names-kept}
use Rattle.nodes.proofs.Stored.{Stored}
use Rattle.eta.proofs.Remade.{binds-stored, joins-stored}
use Rattle.eta.proofs.Counting.{uses-few, fewer, countable-body, countable-after}
use Rattle.eta.proofs.Counting.{counts-binder, counted-binder, counts-application}
use Rattle.eta.proofs.Variables.{zero-variable}

named-under : (d : ℕ) (b : Term) → named d (lam b) ≡ binds d (named (d + 1) b)
unfolding named
named-under d b = rw (add-one d)

-- what a call asks: a term that stands there, if the room and the bounds allow it
nameable : {s : List ℕ} {at : ℕ} {room : List ℕ} {used : ℕ} {counts : List ℕ} {depth : ℕ} (t : Term) → Stands s at t
    → 2 * (used + nodes t) ≤ length room → used + nodes t ≤ 2 * most_nodes → depth + height t ≤ most_height
    → depth + height t ≤ length counts → Countable counts depth (nodes t)
    → Nameable s at room used counts depth
nameable t st fits few low deep countable = record {
  term = t;
  stands = st;
  inside = omega (arith, size-within st, size_positive t);
  fits = fits;
  few = few;
  low = low;
  deep = deep;
  countable = countable;
}

module _ {s : List ℕ} {at : ℕ} {room : List ℕ} {used : ℕ} {counts : List ℕ} {depth : ℕ} {r : Read}
    {after counts' : List ℕ} (asked : Nameable s at room used counts depth)
    (reads : Reads s at room used counts depth r after counts') where
  pub some-made : used < r.used
  some-made = omega (arith, reads.made asked.term asked.stands, nodes_positive asked.term)

  pub counts-length : length counts' ≡ length counts
  counts-length = (reads.counted asked.term asked.stands).as_long

module _ {s : List ℕ} {at : ℕ} {room : List ℕ} {used : ℕ} {counts : List ℕ} {depth : ℕ} where
  pub depth_low : Nameable s at room used counts depth → depth < most_height
  depth_low asked = omega (arith, asked.low, height_positive asked.term)

  pub depth_inside : Nameable s at room used counts depth → depth < length counts
  depth_inside asked = omega (arith, asked.deep, height_positive asked.term)

  -- A VARIABLE
  module _ {i : ℕ} (h : head_in (drop at s) ≡ Some (Variable i)) where
    pub variable-inside : Nameable s at room used counts depth → at + 9 ≤ length s
    unfolding size
    variable-inside asked =
        let e = is-variable asked.term h asked.stands in omega (arith, size-within asked.stands, ap size e)

    pub variable_asks : Nameable s at room used counts depth
        → (2 * used + 2 ≤ length room) × (depth ≤ most_height) × Countable counts depth 1
    unfolding nodes
    variable_asks asked =
        let e = ap nodes (is-variable asked.term h asked.stands) in
        (omega (arith, asked.fits), omega (arith, asked.low), fewer 1 (omega arith) asked.countable)

    pub at_variable : {next : ℕ} {after counts' : List ℕ} → (next ≡ used + 1) × Same room after used
        × Names after (named depth (var i)) used × Counts counts counts' depth (named depth (var i))
        → Reads s at room used counts depth (record { next = at + 9; used = next; zero = eqb i 0 }) after counts'
    unfolding nodes size
    at_variable (end, same, new, counted) =
        let last : used + 1 - 1 ≡ used = omega arith in
        rw end (record {
          names = λ t st. rw (is-variable t h st, last) new;
          made = λ t st. omega (arith, ap nodes (is-variable t h st));
          passed = λ t st. omega (arith, ap size (is-variable t h st));
          zero = λ t st. rw (is-variable t h st, zero-variable depth i);
          counted = λ t st. rw (is-variable t h st) counted;
          same = same;
        })

  -- AN ABSTRACTION
  module _ (h : head_in (drop at s) ≡ Some Abstraction) (asked : Nameable s at room used counts depth) where
    pub body_asks : Nameable s (at + 1) room used (set counts depth 0) (depth + 1)
    unfolding nodes height
    body_asks =
        let v = is-abstraction asked.term h asked.stands in
        let n = ap nodes v.same in
        nameable v.body v.body_at (omega (arith, asked.fits)) (omega (arith, asked.few))
        (omega (arith, asked.low, ap height v.same))
        (omega (arith, asked.deep, ap height v.same, length-set counts depth 0))
        (countable-body (nodes v.body) (omega arith) (omega (arith, asked.few)) (depth_inside asked)
        asked.countable)

    module _ {body : Read} {mid counts' : List ℕ}
        (reads : Reads s (at + 1) room used (set counts depth 0) (depth + 1) body mid counts') where
      pub binder-fits : 2 * body.used + 2 ≤ length mid
      unfolding nodes
      binder-fits =
          let v = is-abstraction asked.term h asked.stands in
          let made = reads.made v.body v.body_at in
          omega (arith, asked.fits, ap nodes v.same, reads.same.as_long)

      -- the body's count of the binder is how often it is named
      binder-named : {linear : Bool} {after : List ℕ} (b : Term) → Stands s (at + 1) b
          → linear ≡ (eqb (get_or counts' depth 0) 1 && not body.zero)
          → Stored mid after body.used (binder_word depth linear) (body.used - 1)
          → Names after (named depth (lam b)) body.used
      unfolding uses has_zero
      binder-named b st linear_is added =
          let count = counted-binder counts (reads.counted b st) (depth_inside asked) in
          let grown = some-made body_asks reads in
          rw (named-under depth b)
          (binds-stored added depth (named (depth + 1) b)
          (ap (binder_word depth) linear_is ∙ rw (count, reads.zero b st)) (omega arith)
          (reads.names b st))

      pub at_abstraction : {next : ℕ} {linear : Bool} {after : List ℕ}
          → linear ≡ (eqb (get_or counts' depth 0) 1 && not body.zero) → next ≡ body.used + 1
          → Stored mid after body.used (binder_word depth linear) (body.used - 1)
          → Reads s at room used counts depth (record { next = body.next; used = next; zero = body.zero })
          after counts'
      unfolding nodes size has_zero
      at_abstraction linear_is end added =
          let last : body.used + 1 - 1 ≡ body.used = omega arith in
          let grown = some-made body_asks reads in
          rw end (record {
            names = λ t st.
                let v = is-abstraction t h st in
                rw (v.same, last) (binder-named v.body v.body_at linear_is added);
            made = λ t st.
                let v = is-abstraction t h st in
                omega (arith, ap nodes v.same, reads.made v.body v.body_at);
            passed = λ t st.
                let v = is-abstraction t h st in
                omega (arith, ap size v.same, reads.passed v.body v.body_at);
            zero = λ t st.
                let v = is-abstraction t h st in
                rw (v.same, named-under depth v.body) (reads.zero v.body v.body_at);
            counted = λ t st.
                let v = is-abstraction t h st in
                let inner = reads.counted v.body v.body_at in
                rw (v.same, named-under depth v.body) (counts-binder counts inner);
            same = same_then (omega arith) reads.same added.same;
          })

  -- AN APPLICATION
  module _ (h : head_in (drop at s) ≡ Some Application) (asked : Nameable s at room used counts depth) where
    pub left_asks : Nameable s (at + 1) room used counts depth
    unfolding nodes height
    left_asks =
        let v = is-application asked.term h asked.stands in
        let n = ap nodes v.same in
        nameable v.left v.left_at (omega (arith, asked.fits)) (omega (arith, asked.few))
        (omega (arith, asked.low, ap height v.same)) (omega (arith, asked.deep, ap height v.same))
        (fewer (nodes v.left) (omega arith) asked.countable)

    module _ {left : Read} {mid counts₁ : List ℕ}
        (first : Reads s (at + 1) room used counts depth left mid counts₁) where
      -- the right part stands after the left one
      right-stands : (t : Term) (st : Stands s at t) → Stands s left.next (is-application t h st).right
      right-stands t st = let v = is-application t h st in rw (first.passed v.left v.left_at) v.right_at

      pub right_asks : Nameable s left.next mid left.used counts₁ depth
      unfolding nodes height
      right_asks =
          let v = is-application asked.term h asked.stands in
          let n = ap nodes v.same in
          let made = first.made v.left v.left_at in
          nameable v.right (right-stands asked.term asked.stands)
          (omega (arith, asked.fits, first.same.as_long)) (omega (arith, asked.few))
          (omega (arith, asked.low, ap height v.same))
          (omega (arith, asked.deep, ap height v.same, (first.counted v.left v.left_at).as_long))
          (countable-after (nodes v.right) (named depth v.left) (λ k. omega (arith, uses-few k depth v.left))
          asked.countable (first.counted v.left v.left_at))

      module _ {right : Read} {end counts₂ : List ℕ}
          (second : Reads s left.next mid left.used counts₁ depth right end counts₂) where
        pub parts-made : (0 < left.used) × (left.used < right.used) × (right.used < 4294967296)
        unfolding nodes
        parts-made =
            let v = is-application asked.term h asked.stands in
            let l = first.made v.left v.left_at in
            let r = second.made v.right (right-stands asked.term asked.stands) in (
              omega (arith, some-made left_asks first),
              some-made right_asks second,
              omega (arith, asked.few, ap nodes v.same),
            )

        pub application-fits : 2 * right.used + 2 ≤ length end
        unfolding nodes
        application-fits =
            let v = is-application asked.term h asked.stands in
            let l = first.made v.left v.left_at in
            let r = second.made v.right (right-stands asked.term asked.stands) in
            omega (arith, asked.fits, ap nodes v.same, first.same.as_long, second.same.as_long)

        application-named : {after : List ℕ} (t : Term) → Stands s at t
            → Stored end after right.used 3 (left.used - 1 + 4294967296 * (right.used - 1))
            → Names after (named depth t) right.used
        unfolding named
        application-named t st added =
            let v = is-application t h st in
            let (some, more, low) = parts-made in
            let l = named depth v.left in
            let made = first.names v.left v.left_at in
            let still = names-kept l (left.used - 1) second.same (omega arith) made in
            rw v.same
            (joins-stored added l (named depth v.right) refl refl (omega arith) (omega arith) (omega arith) still
            (second.names v.right (right-stands t st)))

        pub at_application : {next : ℕ} {zero : Bool} {after : List ℕ} → zero ≡ (left.zero || right.zero)
            → next ≡ right.used + 1 → Stored end after right.used 3 (left.used - 1 + 4294967296 * (right.used - 1))
            → Reads s at room used counts depth (record { next = right.next; used = next; zero = zero }) after counts₂
        unfolding nodes size named has_zero
        at_application zero_is stop added =
            let last : right.used + 1 - 1 ≡ right.used = omega arith in
            let l_made = some-made left_asks first in
            let r_made = some-made right_asks second in
            rw (stop, zero_is) (record {
              names = λ t st. rw last (application-named t st added);
              made = λ t st.
                  let v = is-application t h st in
                  let l = first.made v.left v.left_at in
                  omega (arith, ap nodes v.same, second.made v.right (right-stands t st));
              passed = λ t st.
                  let v = is-application t h st in
                  let l = first.passed v.left v.left_at in
                  omega (arith, ap size v.same, second.passed v.right (right-stands t st));
              zero = λ t st.
                  let v = is-application t h st in
                  let l = first.zero v.left v.left_at in
                  rw (v.same, l, second.zero v.right (right-stands t st));
              counted = λ t st.
                  let v = is-application t h st in
                  let l = first.counted v.left v.left_at in
                  rw v.same (counts-application l (second.counted v.right (right-stands t st)));
              same = same_then (omega arith) first.same (same_then (omega arith) second.same added.same);
            })
        -- NOTHING is never met where a term stands
