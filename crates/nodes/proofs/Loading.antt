-- Loading a term: at each head, what the calls ask and what they come to.
use Rattle.std.specs.Prelude.{Some}
use Prim.Native.Nat.{ℕ, ◌+◌, ◌-◌, ◌*◌, ◌≤◌, ◌<◌, max}
use mathlib.Core.Path.{◌≡◌, ap}
use mathlib.Core.List.{List}
use native.Mathlib.Omega.{arith}
use lib.ListN.{length, drop}
use Rattle.calculus.specs.Term.{Term, var, lam, app, nodes, height}
use Rattle.calculus.specs.Bounds.{most_nodes, most_height}
use Rattle.calculus.proofs.Measures.{nodes_positive}
use Rattle.calculus.proofs.Sizes.{size, size_positive}
use Rattle.term.specs.Heads.{head_in}
use Rattle.term.specs.Surveys.{Stands}
use Rattle.term.specs.declared.Head.TheVariants.{Variable, Abstraction, Application}
use Rattle.term.proofs.Places.{is-variable, is-abstraction, is-application, size-within}
use Rattle.nodes.specs.Packing.{nodes_in, height_in}
use Rattle.nodes.specs.Store.{Holds, Same, word}
use Rattle.nodes.specs.Coded.{Loadable, Loads}
use Rattle.nodes.specs.declared.Loaded.{Loaded}
use Rattle.nodes.proofs.Keeping.{same_then, holds_kept, says}

-- what a call asks: a term that stands there, if the room and the bounds allow it
loadable : {s : List ℕ} {at : ℕ} {room : List ℕ} {used : ℕ} (t : Term) → Stands s at t
    → used + nodes t < 4 * most_nodes → 2 * (used + nodes t) ≤ length room → height t ≤ most_height
    → Loadable s at room used
loadable t st few fits low = record {
  term = t;
  stands = st;
  inside = omega (arith, size-within st, size_positive t);
  few = few;
  fits = fits;
  low = low;
}

pub some-made : {s : List ℕ} {at : ℕ} {room : List ℕ} {used : ℕ} {r : Loaded} {after : List ℕ}
    → Loadable s at room used → Loads s at room used r after → used < r.used
some-made asked loads = omega (arith, loads.made asked.term asked.stands, nodes_positive asked.term)

module _ {s : List ℕ} {at : ℕ} {room : List ℕ} {used : ℕ} where
  -- A VARIABLE
  pub variable_asks : {i : ℕ} → head_in (drop at s) ≡ Some (Variable i) → Loadable s at room used
      → (2 * used + 2 ≤ length room) × (at + 9 ≤ length s)
  unfolding nodes size
  variable_asks h asked =
      let e = is-variable asked.term h asked.stands in
      (omega (arith, asked.fits, ap nodes e), omega (arith, size-within asked.stands, ap size e))

  pub at_variable : {i next : ℕ} {after : List ℕ} → head_in (drop at s) ≡ Some (Variable i) → next ≡ used + 1
      → Same room after used → Holds after (var i) used
      → Loads s at room used (record { next = at + 9; used = next }) after
  unfolding nodes size
  at_variable h end same new =
      let last : used + 1 - 1 ≡ used = omega arith in
      rw end (record {
        loaded = λ t st. rw (is-variable t h st, last) new;
        made = λ t st. omega (arith, ap nodes (is-variable t h st));
        passed = λ t st. omega (arith, ap size (is-variable t h st));
        same = same;
      })

  -- AN ABSTRACTION
  module _ (h : head_in (drop at s) ≡ Some Abstraction) (asked : Loadable s at room used) where
    pub body_asks : Loadable s (at + 1) room used
    unfolding nodes height
    body_asks =
        let v = is-abstraction asked.term h asked.stands in
        loadable v.body v.body_at (omega (arith, asked.few, ap nodes v.same))
        (omega (arith, asked.fits, ap nodes v.same)) (omega (arith, asked.low, ap height v.same))

    module _ {body : Loaded} {mid : List ℕ} (loads : Loads s (at + 1) room used body mid) where
      pub abstraction_asks : (body.used - 1 < body.used) × (2 * body.used + 2 ≤ length mid)
          × (nodes_in (word mid (body.used - 1)) < 262143) × (height_in (word mid (body.used - 1)) < 1023)
      unfolding nodes height
      abstraction_asks =
          let v = is-abstraction asked.term h asked.stands in
          let made = loads.made v.body v.body_at in
          let said = says mid v.body (body.used - 1) (loads.loaded v.body v.body_at) in
          let few = ap nodes v.same in
          let positive = nodes_positive v.body in (
            omega arith,
            omega (arith, asked.fits, loads.same.as_long),
            omega (arith, asked.few, said.nodes_are),
            omega (arith, asked.low, said.height_is, ap height v.same),
          )

      pub at_abstraction : {next : ℕ} {after : List ℕ} → next ≡ body.used + 1 → Same mid after body.used
          → ((t : Term) → Holds mid t (body.used - 1) → Holds after (lam t) body.used)
          → Loads s at room used (record { next = body.next; used = next }) after
      unfolding nodes size
      at_abstraction end same new =
          let last : body.used + 1 - 1 ≡ body.used = omega arith in
          let grown = some-made body_asks loads in
          rw end (record {
            loaded = λ t st.
                let v = is-abstraction t h st in
                rw (v.same, last) (new v.body (loads.loaded v.body v.body_at));
            made = λ t st.
                let v = is-abstraction t h st in
                omega (arith, ap nodes v.same, loads.made v.body v.body_at);
            passed = λ t st.
                let v = is-abstraction t h st in
                omega (arith, ap size v.same, loads.passed v.body v.body_at);
            same = same_then (omega arith) loads.same same;
          })

  -- AN APPLICATION
  module _ (h : head_in (drop at s) ≡ Some Application) (asked : Loadable s at room used) where
    pub left_asks : Loadable s (at + 1) room used
    unfolding nodes height
    left_asks =
        let v = is-application asked.term h asked.stands in
        loadable v.left v.left_at (omega (arith, asked.few, ap nodes v.same))
        (omega (arith, asked.fits, ap nodes v.same)) (omega (arith, asked.low, ap height v.same))

    module _ {left : Loaded} {mid : List ℕ} (first : Loads s (at + 1) room used left mid) where
      -- the right part stands after the left one
      right-stands : (t : Term) (st : Stands s at t) → Stands s left.next (is-application t h st).right
      right-stands t st = let v = is-application t h st in rw (first.passed v.left v.left_at) v.right_at

      pub right_asks : Loadable s left.next mid left.used
      unfolding nodes height
      right_asks =
          let v = is-application asked.term h asked.stands in
          let made = first.made v.left v.left_at in
          loadable v.right (right-stands asked.term asked.stands)
          (omega (arith, asked.few, ap nodes v.same))
          (omega (arith, asked.fits, ap nodes v.same, first.same.as_long))
          (omega (arith, asked.low, ap height v.same))

      module _ {right : Loaded} {end : List ℕ} (second : Loads s left.next mid left.used right end) where
        left-kept : (t : Term) → Stands s (at + 1) t → Holds end t (left.used - 1)
        left-kept t st =
            let positive = nodes_positive t in
            let made = first.made t st in
            holds_kept t (left.used - 1) second.same (omega arith) (first.loaded t st)

        pub application_asks : (left.used - 1 < right.used) × (right.used - 1 < right.used)
            × (right.used < 4294967296) × (2 * right.used + 2 ≤ length end)
            × (nodes_in (word end (left.used - 1)) + nodes_in (word end (right.used - 1)) < 262143)
            × (max (height_in (word end (left.used - 1))) (height_in (word end (right.used - 1))) < 1023)
        unfolding nodes height
        application_asks =
            let v = is-application asked.term h asked.stands in
            let st = right-stands asked.term asked.stands in
            let l = says end v.left (left.used - 1) (left-kept v.left v.left_at) in
            let r = says end v.right (right.used - 1) (second.loaded v.right st) in
            let l_made = first.made v.left v.left_at in
            let r_made = second.made v.right st in
            let few = ap nodes v.same in
            let positive = nodes_positive v.right in (
              omega arith,
              omega arith,
              omega (arith, asked.few),
              omega (arith, asked.fits, first.same.as_long, second.same.as_long),
              omega (arith, asked.few, l.nodes_are, r.nodes_are),
              omega (arith, asked.low, l.height_is, r.height_is, ap height v.same),
            )

        pub at_application : {next : ℕ} {after : List ℕ} → next ≡ right.used + 1 → Same end after right.used
            → ((l r : Term) → Holds end l (left.used - 1) → Holds end r (right.used - 1)
            → Holds after (app l r) right.used)
            → Loads s at room used (record { next = right.next; used = next }) after
        unfolding nodes size
        at_application stop same new =
            let last : right.used + 1 - 1 ≡ right.used = omega arith in
            let grown = some-made left_asks first in
            let more = some-made right_asks second in
            rw stop (record {
              loaded = λ t st.
                  let v = is-application t h st in
                  let l = left-kept v.left v.left_at in
                  let r = second.loaded v.right (right-stands t st) in
                  rw (v.same, last) (new v.left v.right l r);
              made = λ t st.
                  let v = is-application t h st in
                  let l = first.made v.left v.left_at in
                  omega (arith, ap nodes v.same, second.made v.right (right-stands t st));
              passed = λ t st.
                  let v = is-application t h st in
                  let l = first.passed v.left v.left_at in
                  omega (arith, ap size v.same, second.passed v.right (right-stands t st));
              same = same_then (omega arith) first.same (same_then (omega arith) second.same same);
            })
        -- NOTHING is never met where a term stands
