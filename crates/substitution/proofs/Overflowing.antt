-- Indices that raising takes past the greatest number: at each kind, what the calls ask and what they come to.
use Prim.Native.Nat.{ℕ, suc, ◌+◌, ◌-◌, ◌≤◌, ◌<◌}
use mathlib.Core.Path.{◌≡◌, sym, ap, ◌∙◌}
use mathlib.Core.Bool.{Bool, true, false}
use mathlib.Core.List.{List}
use native.Mathlib.Omega.{arith}
use native.Mathlib.Decide.{dec_le}
use lib.Dec.{leb, ltb}
use borrow.Author.Tests.{le-leb, lt-leb, leb-true, leb-false, not-true, not-false, lt-ltb, le-ltb}
use Rattle.calculus.specs.Term.{Term, var, lam, app, height, greatest_index}
use Rattle.calculus.specs.Bounds.{greatest_number}
use Rattle.calculus.specs.Substitution.{raise}
use Rattle.calculus.specs.Queries.{max_free}
use Rattle.calculus.proofs.Substituting.{raise-bound, raise_free}
use Rattle.nodes.specs.Packing.{free_in}
use Rattle.nodes.specs.Store.{Holds, word, link}
use Rattle.nodes.specs.Node.{node_in}
use Rattle.nodes.specs.declared.Node.{Node}
use Rattle.nodes.specs.declared.Node.TheVariants.{Variable, Abstraction, Application}
use Rattle.nodes.proofs.Keeping.{says}
use Rattle.nodes.proofs.Parts.{HeldApplication, held-variable, held-abstraction, held-application}
use Rattle.substitution.specs.Weighing.{too_great, Overflowable, Overflows}
use Rattle.substitution.proofs.Lifting.{by_index}
use Rattle.nodes.proofs.Holding.{held_once}

-- WHAT IS TOO GREAT
pub fits_told : (t : Term) → greatest_index t ≤ greatest_number → false ≡ too_great t
fits_told t h = rw (le-leb (greatest_index t) greatest_number h)

great_told : (t : Term) → greatest_number < greatest_index t → true ≡ too_great t
great_told t h = rw (lt-leb (greatest_index t) greatest_number h)

told-fits : (t : Term) → false ≡ too_great t → greatest_index t ≤ greatest_number
told-fits t e = leb-true _ _ (not-false (leb (greatest_index t) greatest_number) (sym e))

told_great : (t : Term) → true ≡ too_great t → greatest_number < greatest_index t
told_great t e = leb-false _ _ (not-true (leb (greatest_index t) greatest_number) (sym e))

-- two terms of which neither or both are
pub both_great : (t u : Term) → (greatest_index t ≤ greatest_number → greatest_index u ≤ greatest_number)
    → (greatest_index u ≤ greatest_number → greatest_index t ≤ greatest_number) → too_great t ≡ too_great u
both_great t u to back =
    elim (dec_le (greatest_index t) greatest_number) [
      | yes h ↦ sym (fits_told t h) ∙ fits_told u (to h)
      | no h ↦ sym (great_told t (omega arith)) ∙ great_told u (by_back h)
    ]
  where
    by_back : (greatest_index t ≤ greatest_number → ⊥) → greatest_number < greatest_index u
    by_back h =
        elim (dec_le (greatest_index u) greatest_number) [ yes k ↦ absurd (h (back k)) | no k ↦ omega arith ]

-- an index of a term with a known bound is raised no further than this
raise-most : (k d f : ℕ) (t : Term) → max_free f t ≡ 0 → greatest_index (raise k d t) ≤ f + height t + k
unfolding raise max_free greatest_index height
raise-most k d f (var i) h =
    by_index (λ u. greatest_index u ≤ f + 1 + k) k d i (omega arith) (omega arith)
raise-most k d f (lam b) h = omega (arith, raise-most k (suc d) (suc f) b h)
raise-most k d f (app l r) h =
    let left = raise-most k d f l (omega arith) in let right = raise-most k d f r (omega arith) in omega arith

module _ {room : List ℕ} {node amount depth : ℕ} (asked : Overflowable room node amount depth) where
  -- the node is one term only
  overflows : {r : Bool} → r ≡ too_great (raise amount depth asked.term) → Overflows room node amount depth r
  overflows told = record { tells = λ t h. rw (held_once room node t asked.term h asked.holds) told }

  pub at_known : free_in (word room node) < 1023 → Overflows room node amount depth false
  at_known low =
      let said = says room asked.term node asked.holds in
      let most = raise-most amount depth (free_in (word room node)) asked.term (said.free_are low) in
      overflows (fits_told _ (omega (arith, asked.deep, asked.little)))

  part_asks : {m d : ℕ} (t : Term) → Holds room t m → m < node → d + height t ≤ depth + height asked.term
      → Overflowable room m amount d
  part_asks t h falls lower = record {
    term = t;
    holds = h;
    inside = omega (arith, asked.inside);
    deep = omega (arith, asked.deep);
    little = asked.little;
  }

  module _ {found : Node} (told : found ≡ node_in (word room node) (link room node)) where
    -- A VARIABLE
    module _ {i : ℕ} (is : found ≡ Variable i) where
      index_is : asked.term ≡ var i
      index_is = held-variable room node told asked.term asked.holds is

      pub at_bound : i ≤ depth → Overflows room node amount depth false
      unfolding greatest_index
      at_bound low =
          let fits = fits_told (var i) (omega (arith, asked.deep)) in
          overflows (rw (index_is, raise-bound amount depth i low) fits)

      pub at_free : depth < i
          → Overflows room node amount depth (ltb (greatest_number - amount) i)
      unfolding greatest_index
      at_free free =
          overflows (rw (index_is, raise_free amount depth i free) (
          elim (dec_le (i + amount) greatest_number) [
            | yes h ↦
                le-ltb (greatest_number - amount) i (omega arith)
                ∙ fits_told (var (i + amount)) h
            | no h ↦
                lt-ltb (greatest_number - amount) i (omega (arith, asked.little))
                ∙ great_told (var (i + amount)) (omega arith)
          ]
          ))

    -- AN ABSTRACTION
    module _ {b : ℕ} (is : found ≡ Abstraction b) where
      pub body_asks : (b < node) × Overflowable room b amount (depth + 1)
      unfolding height
      body_asks =
          let v = held-abstraction room node told asked.term asked.holds is in
          (v.below, part_asks v.body v.held v.below (omega (arith, ap height v.same)))

      pub at_abstraction : {r : Bool} → Overflows room b amount (depth + 1) r
          → Overflows room node amount depth r
      unfolding raise greatest_index
      at_abstraction x =
          let v = held-abstraction room node told asked.term asked.holds is in
          let one : depth + 1 ≡ suc depth = omega arith in
          overflows (rw v.same (rw one at (x.tells v.body v.held)))

    -- AN APPLICATION
    module _ {m n : ℕ} (is : found ≡ Application m n) where
      parts : HeldApplication room node m n asked.term
      parts = held-application room node told asked.term asked.holds is

      pub left_asks : (m < node) × Overflowable room m amount depth
      unfolding height
      left_asks =
          let v = parts in
          (v.left_below, part_asks v.left v.left_held v.left_below (omega (arith, ap height v.same)))

      pub right_asks : (n < node) × Overflowable room n amount depth
      unfolding height
      right_asks =
          let v = parts in
          (v.right_below, part_asks v.right v.right_held v.right_below (omega (arith, ap height v.same)))

      raised-left : Term
      raised-left = raise amount depth parts.left

      raised-right : Term
      raised-right = raise amount depth parts.right

      whole_is : {r : Bool} → r ≡ too_great (app raised-left raised-right) → Overflows room node amount depth r
      unfolding raise raised-left raised-right
      whole_is e = overflows (e ∙ ap (λ u. too_great (raise amount depth u)) (sym parts.same))

      left-told : {r : Bool} → Overflows room m amount depth r → r ≡ too_great raised-left
      unfolding raised-left
      left-told x = x.tells parts.left parts.left_held

      -- the left part decides
      pub at_left : Overflows room m amount depth true → Overflows room node amount depth true
      unfolding greatest_index
      at_left x =
          let great = told_great raised-left (left-told x) in
          whole_is (great_told (app raised-left raised-right) (omega arith))

      -- or else the right one
      pub at_right : Overflows room m amount depth false → {r : Bool} → Overflows room n amount depth r → Overflows room node amount depth r
      unfolding raised-right greatest_index
      at_right x y =
          let fits = told-fits raised-left (left-told x) in
          let right = y.tells parts.right parts.right_held in
          whole_is
          (right ∙ both_great raised-right (app raised-left raised-right) (λ h. omega arith) (λ h. omega arith))
