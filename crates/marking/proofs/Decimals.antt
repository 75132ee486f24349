-- Numbers in decimal digits, of which all but the last are the digits of a tenth.
use Prim.Native.Nat.{ℕ, zero, suc, ◌+◌, ◌-◌, ◌/◌, ◌%◌, ◌≤◌, ◌<◌}
use mathlib.Core.Path.{◌≡◌, refl}
use mathlib.Core.Bool.{Bool, true, false, cond}
use mathlib.Core.List.{List, [], ◌∷◌, ◌++◌}
use native.Mathlib.Omega.{arith}
use lib.Dec.{ltb}
use lib.ListN.{length, length-append}
use borrow.Author.Tests.{lt-ltb, le-ltb}
use Rattle.calculus.specs.Numbers.{figure, numeral}

pub no_digit : {most : ℕ} (n : ℕ) → most ≡ 0 → numeral 10 most n ≡ []
unfolding numeral
no_digit n e = rw e

pub one_digit : (most n : ℕ) → (most ≡ 0 → ⊥) → n < 10 → numeral 10 most n ≡ (48 + n) ∷ []
unfolding numeral
one_digit zero n some h = absurd (some refl)
one_digit (suc most) n some h =
    let same : n % 10 ≡ n = omega arith in
    rw (lt-ltb n 10 h, same, lt-ltb n 10 h)

pub more_digits : (most n : ℕ) → (most ≡ 0 → ⊥) → 10 ≤ n
    → numeral 10 most n ≡ numeral 10 (most - 1) (n / 10) ++ ((48 + n % 10) ∷ [])
unfolding numeral
more_digits zero n some h = absurd (some refl)
more_digits (suc most) n some h =
    let same : suc most - 1 ≡ most = omega arith in
    rw (le-ltb n 10 h, lt-ltb (n % 10) 10 (omega arith), same)

pub digits-few : (most n : ℕ) → length (numeral 10 most n) ≤ most
unfolding numeral
digits-few zero n = omega arith
digits-few (suc most) n = by_size (numeral 10 most (n / 10)) (digits-few most (n / 10)) (ltb n 10)
  where
    by_size : (ds : List ℕ) → length ds ≤ most → (b : Bool)
        → length (cond b [] ds ++ (figure (n % 10) ∷ [])) ≤ suc most
    by_size ds h true = omega arith
    by_size ds h false = omega (arith, length-append ds (figure (n % 10) ∷ []))

pub ruleset decimal = (no_digit, one_digit, more_digits, digits-few)
