-- New nodes: what their first numbers say, and which terms they are once both numbers are put.
use Prim.Native.Nat.{ℕ, suc, ◌+◌, ◌*◌, ◌/◌, ◌%◌, ◌-◌, ◌≤◌, ◌<◌, min, max}
use mathlib.Core.Path.{◌≡◌, refl, sym, ◌∙◌}
use mathlib.Core.Bool.{Bool, true, false, cond}
use mathlib.Core.List.{List}
use native.Mathlib.Omega.{arith}
use lib.ListN.{length, set}
use lib.Dec.{eqb}
use borrow.Author.Tests.{eqb-true, eqb-false, eq-eqb, ne_eqb}
use Rattle.calculus.specs.Term.{Term, var, lam, app, nodes, height}
use Rattle.calculus.specs.Queries.{max_free}
use Rattle.calculus.specs.Traits.{NotLam, var_not_lam, app_not_lam}
use Rattle.nodes.specs.Packing.{packed, lowered, settled, kind_in, nodes_in, height_in, free_in, normal_in}
use Rattle.nodes.specs.Store.{Says, Normal, Holds, Same, kind, variable, abstraction, application}
use Rattle.nodes.proofs.Keeping.{holds_kept}
use Rattle.nodes.proofs.Stored.{Stored, stored}

-- THE FIRST NUMBER
-- each part of a packed number has its own place
says-packed : (t : Term) (k n h f s : ℕ) → (k < 4) × (n < 262144) × (h < 1024) × (f < 1024) × (s < 2)
    → k ≡ kind t → n ≡ nodes t → h ≡ height t → (f < 1023 → max_free f t ≡ 0) → (s ≡ 1 → Normal t)
    → Says (packed k n h f s) t
says-packed t k n h f s small k_is n_is h_is free normal =
    let free_is : free_in (packed k n h f s) ≡ f = omega arith in
    let normal_is : normal_in (packed k n h f s) ≡ s = omega arith in
    record {
      kind_is = (let e : kind_in (packed k n h f s) ≡ k = omega arith in e ∙ k_is);
      nodes_are = (let e : nodes_in (packed k n h f s) ≡ n = omega arith in e ∙ n_is);
      height_is = (let e : height_in (packed k n h f s) ≡ h = omega arith in e ∙ h_is);
      free_are = λ low. rw free_is (free (omega arith));
      is_normal = λ e. normal (sym normal_is ∙ e);
    }

-- what is not free beyond a bound is not free beyond a greater one
max_free-grows : (f g : ℕ) (t : Term) → f ≤ g → max_free f t ≡ 0 → max_free g t ≡ 0
unfolding max_free
max_free-grows f g (var i) le h = omega arith
max_free-grows f g (lam b) le h = max_free-grows (suc f) (suc g) b (omega arith) h
max_free-grows f g (app l r) le h =
    let left = max_free-grows f g l le (omega arith) in
    let right = max_free-grows f g r le (omega arith) in
    omega arith

-- A VARIABLE
-- from 1023 on the bound says nothing
pub says_variable : (i : ℕ) → Says (packed 1 1 1 (min i 1023) 1) (var i)
unfolding kind nodes height max_free
says_variable i =
    says-packed (var i) 1 1 1 (min i 1023) 1 (omega arith, omega arith, omega arith, omega arith, omega arith) refl refl
    refl (λ low. omega arith) (λ z. variable)

-- AN ABSTRACTION
-- the bound is one less, unless it is 0 or says nothing
lowered_is : (f : ℕ) → (f ≤ lowered f + 1) × (lowered f ≤ f) × (f < 1024 → lowered f < 1023 → f < 1023)
lowered_is f = by (eqb f 0) (eqb f 1023) refl refl
  where
    by : (p q : Bool) → eqb f 0 ≡ p → eqb f 1023 ≡ q → let low = cond p 0 (cond q 1023 (f - 1)) in
        (f ≤ low + 1) × (low ≤ f) × (f < 1024 → low < 1023 → f < 1023)
    by true q e g = let z = eqb-true f 0 e in (omega arith, omega arith, λ h k. omega arith)
    by false true e g = let z = eqb-true f 1023 g in (omega arith, omega arith, λ h k. omega arith)
    by false false e g = let z = eqb-false f 1023 g in (omega arith, omega arith, λ h k. omega (arith, z))

abbrev pub abstraction-word : ℕ → ℕ
abstraction-word w = packed 2 (nodes_in w + 1) (height_in w + 1) (lowered (free_in w)) (normal_in w)

module _ (w : ℕ) (few : nodes_in w < 262143) (low : height_in w < 1023) where
  pub abstraction-small : (2 < 4) × (nodes_in w + 1 < 262144) × (height_in w + 1 < 1024)
      × (lowered (free_in w) < 1024) × (normal_in w < 2)
  abstraction-small =
      let (_, less, _) = lowered_is (free_in w) in (omega arith, omega arith, omega arith, omega arith, omega arith)

  pub says-abstraction : (t : Term) → Says w t → Says (abstraction-word w) (lam t)
  unfolding kind nodes height max_free
  says-abstraction t now =
      let f = lowered (free_in w) in
      let (more, _, known) = lowered_is (free_in w) in
      says-packed (lam t) 2 (nodes_in w + 1) (height_in w + 1) f (normal_in w) abstraction-small refl
      (omega (arith, now.nodes_are)) (omega (arith, now.height_is))
      (λ h. max_free-grows (free_in w) (suc f) t (omega arith) (now.free_are (known (omega arith) h)))
      (λ e. abstraction (now.is_normal e))

-- AN APPLICATION
not_lam : (t : Term) → (kind t ≡ 2 → ⊥) → NotLam t
unfolding kind
not_lam (var i) h = var_not_lam
not_lam (lam b) h = absurd (h refl)
not_lam (app l r) h = app_not_lam

module _ (a b : ℕ) where
  settled_by : (p q : Bool) → eqb (kind_in a) 2 ≡ p → eqb (normal_in a) 1 ≡ q
      → let s = cond p 0 (cond q (normal_in b) 0) in
      (s < 2) × (s ≡ 1 → (kind_in a ≡ 2 → ⊥) × (normal_in a ≡ 1) × (normal_in b ≡ 1))
  settled_by true q e g = (omega arith, λ s. absurd (omega arith))
  settled_by false true e g = (omega arith, λ s. (eqb-false (kind_in a) 2 e, eqb-true (normal_in a) 1 g, s))
  settled_by false false e g = (omega arith, λ s. absurd (omega arith))

  settled_is : (settled a b < 2) × (settled a b ≡ 1 → (kind_in a ≡ 2 → ⊥) × (normal_in a ≡ 1) × (normal_in b ≡ 1))
  settled_is = settled_by (eqb (kind_in a) 2) (eqb (normal_in a) 1) refl refl

  settled-normal : (l r : Term) → Says a l → Says b r → settled a b ≡ 1 → Normal (app l r)
  settled-normal l r left right e =
      let (other, done, also) = settled_is.1 e in
      application (not_lam l (λ z. other (left.kind_is ∙ z))) (left.is_normal done) (right.is_normal also)

  abbrev pub application-word : ℕ
  application-word =
      packed 3 (nodes_in a + nodes_in b + 1) (max (height_in a) (height_in b) + 1) (max (free_in a) (free_in b))
      (settled a b)

  module _ (few : nodes_in a + nodes_in b < 262143) (low : max (height_in a) (height_in b) < 1023) where
    pub application-small : (3 < 4) × (nodes_in a + nodes_in b + 1 < 262144)
        × (max (height_in a) (height_in b) + 1 < 1024) × (max (free_in a) (free_in b) < 1024) × (settled a b < 2)
    application-small = (omega arith, omega arith, omega arith, omega arith, settled_is.0)

    pub says-application : (l r : Term) → Says a l → Says b r → Says application-word (app l r)
    unfolding kind nodes height max_free
    says-application l r left right =
        let f = max (free_in a) (free_in b) in
        says-packed (app l r) 3 (nodes_in a + nodes_in b + 1) (max (height_in a) (height_in b) + 1) f (settled a b)
        application-small refl (omega (arith, left.nodes_are, right.nodes_are))
        (omega (arith, left.height_is, right.height_is))
        (λ known.
        let p = max_free-grows (free_in a) f l (omega arith) (left.free_are (omega arith)) in
        let q = max_free-grows (free_in b) f r (omega arith) (right.free_are (omega arith)) in
        omega arith)
        (settled-normal l r left right)

-- BOTH NUMBERS
module _ (xs : List ℕ) (u w x : ℕ) {ys : List ℕ} {next : ℕ} (fits : 2 * u + 2 ≤ length xs)
    (put : (next ≡ u + 1) × (ys ≡ set (set xs (2 * u) w) (2 * u + 1) x)) where
  new : Stored xs ys u w x
  new = stored xs u w x fits put.1

  pub variable-made : Says w (var x) → (next ≡ u + 1) × Same xs ys u × Holds ys (var x) u
  unfolding Holds
  variable-made said = (put.0, new.same, rw (new.word_is, new.link_is) (said, refl))

  pub abstraction-made : x < u → ((t : Term) → Holds xs t x → Says w (lam t))
      → (next ≡ u + 1) × Same xs ys u × ((t : Term) → Holds xs t x → Holds ys (lam t) u)
  unfolding Holds
  abstraction-made below said = (
    put.0,
    new.same,
    λ t h. rw (new.word_is, new.link_is) (said t h, below, holds_kept t x new.same below h),
  )

  pub application-made : {m k : ℕ} → x ≡ m + 4294967296 * k → m < u → k < u → u < 4294967296
      → ((t v : Term) → Holds xs t m → Holds xs v k → Says w (app t v))
      → (next ≡ u + 1) × Same xs ys u × ((t v : Term) → Holds xs t m → Holds xs v k → Holds ys (app t v) u)
  unfolding Holds
  application-made {m} {k} parts left_below right_below low said =
      let left_is : x % 4294967296 ≡ m = omega arith in
      let right_is : x / 4294967296 ≡ k = omega arith in (
        put.0,
        new.same,
        λ t v h g.
            let left = holds_kept t m new.same left_below h in
            let right = holds_kept v k new.same right_below g in
            rw (new.word_is, new.link_is, left_is, right_is) (said t v h g, left_below, right_below, left, right),
      )

-- WHAT A TEST COMES TO where two numbers are the same, or not
pub ruleset number_tests = (eq-eqb, ne_eqb)
