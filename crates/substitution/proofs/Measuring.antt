-- Measuring a term before an argument is put in: at each kind, what the calls ask and what they come to.
use Prim.Native.Nat.{ℕ, suc, ◌+◌, ◌*◌, ◌≤◌, ◌<◌, max}
use mathlib.Core.Path.{◌≡◌, sym, ap, ◌∙◌}
use mathlib.Core.List.{List}
use native.Mathlib.Omega.{arith}
use Rattle.calculus.specs.Term.{Term, nodes, height}
use Rattle.calculus.specs.Bounds.{most_nodes}
use Rattle.calculus.specs.Substitution.{put, occurs}
use Rattle.nodes.specs.Packing.{height_in, free_in}
use Rattle.nodes.specs.Store.{Holds, word, link}
use Rattle.nodes.specs.Node.{node_in}
use Rattle.nodes.specs.declared.Node.{Node}
use Rattle.nodes.specs.declared.Node.TheVariants.{Abstraction, Application}
use Rattle.nodes.specs.declared.Node.TheVariants as kind
use Rattle.nodes.proofs.Keeping.{says}
use Rattle.nodes.proofs.Parts.{HeldAbstraction, HeldApplication}
use Rattle.nodes.proofs.Parts.{held-variable, held-abstraction, held-application}
use Rattle.substitution.specs.Weighing.{deepest, Measurable, Measures}
use Rattle.substitution.specs.declared.weighing.Measured.{Measured}
use Rattle.nodes.proofs.Holding.{held_once}
use Rattle.substitution.proofs.Placed.{put_stays}
use Rattle.substitution.proofs.Counting.{Variable, index-here, index_other, none-put, within}

-- what was measured of one term
record Counted (d tall : ℕ) (t : Term) (r : Measured) : Type 0 where
  pub copies : r.copies ≡ occurs d t
  pub deepest_at : r.deepest ≡ deepest d t
  pub height_is : (a : Term) → height a ≡ tall → r.height ≡ height (put d a t)

counted : {room : List ℕ} {node d tall : ℕ} {r : Measured} (t : Term) → Holds room t node
    → Measures room node d tall r → Counted d tall t r
counted t h x = record {
  copies = x.copies t h;
  deepest_at = x.deepest_at t h;
  height_is = λ a e. x.height_is t a h e;
}

module _ {room : List ℕ} {node depth tall : ℕ} (asked : Measurable room node depth tall) where
  -- the node is one term only
  measures : {r : Measured} → Counted depth tall asked.term r → Measures room node depth tall r
  measures x = record {
    copies = λ t h. rw (held_once room node t asked.term h asked.holds) x.copies;
    deepest_at = λ t h. rw (held_once room node t asked.term h asked.holds) x.deepest_at;
    height_is = λ t a h e. rw (held_once room node t asked.term h asked.holds) (x.height_is a e);
  }

  pub at_shared : {h : ℕ} → free_in (word room node) ≤ depth → h ≡ height_in (word room node)
      → Measures room node depth tall (record { copies = 0; deepest = 0; height = h })
  at_shared low same =
      let said = says room asked.term node asked.holds in
      let bound = said.free_are (omega (arith, asked.deep)) in
      let (none, nowhere) = none-put asked.term low bound in
      measures (record {
        copies = sym none;
        deepest_at = sym nowhere;
        height_is = λ a e. same ∙ said.height_is ∙ sym (ap height (put_stays a asked.term low bound));
      })

  -- what is asked of a part
  part_asks : {m d : ℕ} (t : Term) → Holds room t m → m < node → nodes t ≤ nodes asked.term
      → d + height t ≤ depth + height asked.term → Measurable room m d tall
  part_asks t h falls fewer lower = record {
    term = t;
    holds = h;
    inside = omega (arith, asked.inside);
    few = omega (arith, asked.few);
    deep = omega (arith, asked.deep);
    put_term = asked.put_term;
    tall_is = asked.tall_is;
    low = asked.low;
  }

  module _ {found : Node} (told : found ≡ node_in (word room node) (link room node)) where
    -- A VARIABLE
    module _ {i : ℕ} (is : found ≡ kind.Variable i) where
      counted-index : {copies place h : ℕ}
          → ((a : Term) → height a ≡ tall → Variable depth a i copies place h)
          → Measures room node depth tall (record { copies = copies; deepest = place; height = h })
      counted-index v =
          let known = v asked.put_term asked.tall_is in
          let e = held-variable room node told asked.term asked.holds is in
          measures (rw e (record {
            copies = sym known.occurs_is;
            deepest_at = sym known.deepest_is;
            height_is = λ a same. sym (v a same).height_is;
          }))

      pub at_index : i ≡ depth + 1
          → Measures room node depth tall (record { copies = 1; deepest = i; height = tall })
      at_index here =
          let e : i ≡ suc depth = omega arith in
          rw e (counted-index (λ a same. rw (sym same) (index-here depth a i e)))

      pub at_other : (i ≡ depth + 1 → ⊥)
          → Measures room node depth tall (record { copies = 0; deepest = 0; height = 1 })
      at_other other = counted-index (λ a same. index_other depth a i (λ e. other (omega arith)))

    -- AN ABSTRACTION
    module _ {b : ℕ} (is : found ≡ Abstraction b) where
      held-body : HeldAbstraction room node b asked.term
      held-body = held-abstraction room node told asked.term asked.holds is

      pub body_asks : (b < node) × Measurable room b (depth + 1) tall
      unfolding nodes height
      body_asks =
          let v = held-body in (
            v.below,
            part_asks v.body v.held v.below (omega (arith, ap nodes v.same))
                (omega (arith, ap height v.same)),
          )

      module _ {body : Measured} (x : Measures room b (depth + 1) tall body) where
        pub body-low : body.height ≤ 2044
        unfolding height
        body-low =
            let v = held-body in
            let told = (counted v.body v.held x).height_is asked.put_term asked.tall_is in
            let most = (within (depth + 1) asked.put_term v.body).low in
            omega (arith, asked.deep, asked.tall_is, asked.low, ap height v.same)

        pub at_abstraction : Measures room node depth tall (record {
          copies = body.copies;
          deepest = body.deepest;
          height = body.height + 1;
        })
        unfolding occurs deepest put height
        at_abstraction =
            let v = held-body in
            let one : depth + 1 ≡ suc depth = omega arith in
            let y : Counted (suc depth) tall v.body body = rw one at (counted v.body v.held x) in
            measures (rw v.same (record {
              copies = y.copies;
              deepest_at = y.deepest_at;
              height_is = λ a e. omega (arith, y.height_is a e);
            }))

    -- AN APPLICATION
    module _ {m n : ℕ} (is : found ≡ Application m n) where
      parts : HeldApplication room node m n asked.term
      parts = held-application room node told asked.term asked.holds is

      pub left_asks : (m < node) × Measurable room m depth tall
      unfolding nodes height
      left_asks =
          let v = parts in
          let falls = v.left_below in (
            falls,
            part_asks v.left v.left_held falls (omega (arith, ap nodes v.same))
                (omega (arith, ap height v.same)),
          )

      pub right_asks : (n < node) × Measurable room n depth tall
      unfolding nodes height
      right_asks =
          let v = parts in
          let falls = v.right_below in (
            falls,
            part_asks v.right v.right_held falls (omega (arith, ap nodes v.same))
                (omega (arith, ap height v.same)),
          )

      module _ {left right : Measured} (first : Measures room m depth tall left)
          (second : Measures room n depth tall right) where
        left-counted : Counted depth tall parts.left left
        left-counted = counted parts.left parts.left_held first

        right-counted : Counted depth tall parts.right right
        right-counted = counted parts.right parts.right_held second

        pub sums_low : (left.copies + right.copies ≤ 4 * most_nodes) × (max left.height right.height ≤ 2044)
        unfolding nodes height
        sums_low =
            let a = asked.put_term in
            let x = within depth a parts.left in
            let y = within depth a parts.right in
            let p = left-counted.height_is a asked.tall_is in
            let q = right-counted.height_is a asked.tall_is in (
              omega (
                arith,
                left-counted.copies,
                right-counted.copies,
                x.few,
                y.few,
                asked.few,
                ap nodes parts.same,
              ),
              omega (arith, x.low, y.low, asked.deep, asked.low, asked.tall_is, ap height parts.same),
            )

        pub at_application : {place tallest : ℕ} → place ≡ max left.deepest right.deepest
            → tallest ≡ max left.height right.height
            → Measures room node depth tall (record {
              copies = left.copies + right.copies;
              deepest = place;
              height = tallest + 1;
            })
        unfolding occurs deepest put height
        at_application place_is tallest_is =
            measures (rw parts.same (record {
              copies = omega (arith, left-counted.copies, right-counted.copies);
              deepest_at = omega (arith, left-counted.deepest_at, right-counted.deepest_at);
              height_is = λ a e. omega (arith, left-counted.height_is a e, right-counted.height_is a e);
            }))
