-- Tests of numbers as equations, and functions that agree because their tables do.
use Prim.Native.Nat.{ℕ, zero, suc, ◌≤◌, ◌<◌}
use mathlib.Core.Path.{◌≡◌, refl, sym, ap, ◌∙◌}
use mathlib.Core.Bool.{Bool, true, false, ◌&&◌, ◌||◌, not, true≢false, false≢true}
use mathlib.Core.Logic.{◌↔◌}
use mathlib.Core.List.{List, [], ◌∷◌}
use native.Mathlib.Omega.{arith}
use native.Mathlib.Decide.{dec_le, dec_lt}
use lib.Dec.{leb}
use borrow.Author.Tests.{le-leb, lt-leb}
use Rattle.calculus.specs.Numbers.{between}

-- a test that cannot pass fails
pub is_false : (b : Bool) → (b ≡ true → ⊥) → b ≡ false
is_false true h = absurd (h refl)
is_false false h = refl

pub flipped : (b c : Bool) → not b ≡ c → b ≡ not c
flipped true c e = ap not e
flipped false c e = ap not e

-- a test that passes changes nothing, and one that fails decides
pub and-true : (b : Bool) → (b && true) ≡ b
and-true true = refl
and-true false = refl

pub and-false : (b : Bool) → (b && false) ≡ false
and-false true = refl
and-false false = refl

-- what two tests together tell of each
pub both : (a b : Bool) → (a && b) ≡ true → (a ≡ true) × (b ≡ true)
both true b e = (refl, e)
both false b e = absurd (false≢true e)

pub neither : (a b : Bool) → (a || b) ≡ false → (a ≡ false) × (b ≡ false)
neither true b e = absurd (true≢false e)
neither false b e = (refl, e)

-- two tests agree if each bound implies the other
pub same-bound : (a b c d : ℕ) → (a ≤ b) ↔ (c ≤ d) → leb a b ≡ leb c d
same-bound a b c d (f, g) =
    elim (dec_le a b) [
      | yes h ↦ le-leb a b h ∙ sym (le-leb c d (f h))
      | no h ↦
          elim (dec_le c d) [
            | yes k ↦ absurd (h (g k))
            | no k ↦ lt-leb a b (omega arith) ∙ sym (lt-leb c d (omega arith))
          ]
    ]

-- what the test of an interval tells
pub data Interval (low high n : ℕ) : Bool → Type 0 where
  inside : low ≤ n → n ≤ high → Interval low high n true
  outside : (low ≤ n → high < n) → Interval low high n false

pub interval : (low high n : ℕ) → Interval low high n (between low high n)
interval low high n =
    elim (dec_le low n) [
      | yes p ↦
          elim (dec_le n high) [
            | yes q ↦ rw (le-leb low n p, le-leb n high q) (inside p q)
            | no q ↦ rw (le-leb low n p, lt-leb n high (omega arith)) (outside (λ h. omega arith))
          ]
      | no p ↦ rw (lt-leb low n (omega arith)) (outside (λ h. absurd (p h)))
    ]

pub in_interval : (low high n : ℕ) → between low high n ≡ true → (low ≤ n) × (n ≤ high)
in_interval low high n e = ends (rw e at (interval low high n))
  where
    ends : Interval low high n true → (low ≤ n) × (n ≤ high)
    ends (inside p q) = (p, q)

module _ {A : Type 0} where
  -- the values of a function below n, the last first
  unfoldable pub table : (ℕ → A) → ℕ → List A
  table f zero = []
  table f (suc n) = f n ∷ table f n

  -- two functions with the same table agree below n: a rule for every byte is one computation
  pub by_table : (f g : ℕ → A) (n : ℕ) → table f n ≡ table g n → (i : ℕ) → i < n → f i ≡ g i
  unfolding table
  by_table f g zero e i h = absurd (omega arith)
  by_table f g (suc n) e i h =
      let head : f n ≡ g n = cc in
      let tail : table f n ≡ table g n = cc in
      elim (dec_lt i n) [
        | yes below ↦ by_table f g n tail i below
        | no above ↦ let last : i ≡ n = omega arith in rw last head
      ]
