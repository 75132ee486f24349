-- How raising and putting treat one variable, by where its index lies.
use Prim.Native.Nat.{Ordering}
use Prim.Native.Nat.{ℕ, zero, suc, ◌+◌, ◌≤◌, ◌<◌, pred, compare}
use Prim.Native.Nat.compare
use mathlib.Core.Path.{◌≡◌, refl}
use native.Mathlib.Omega.{arith}
use borrow.Author.Tests.{le-leb, lt-leb}
use Rattle.calculus.specs.Term.{Term, var}
use Rattle.calculus.specs.Substitution.{raise, put}

pub compare_less : (m n : ℕ) → m < n → compare m n ≡ Ordering.lt
compare_less m zero h = absurd (omega arith)
compare_less zero (suc n) h = compare.zero-suc n
compare_less (suc m) (suc n) h = rw compare.suc-suc (compare_less m n (omega arith))

pub compare_more : (m n : ℕ) → n < m → compare m n ≡ Ordering.gt
compare_more zero n h = absurd (omega arith)
compare_more (suc m) zero h = compare.suc-zero m
compare_more (suc m) (suc n) h = rw compare.suc-suc (compare_more m n (omega arith))

pub compare_same : (n : ℕ) → compare n n ≡ Ordering.eq
compare_same zero = compare.zero-zero
compare_same (suc n) = rw compare.suc-suc (compare_same n)

-- where an index lies
pub data Split (i d : ℕ) : Type 0 where
  below : i ≤ d → Split i d
  at : i ≡ suc d → Split i d
  above : suc d < i → Split i d

pub split : (i d : ℕ) → Split i d
split zero d = below (omega arith)
split (suc zero) zero = at refl
split (suc (suc i)) zero = above (omega arith)
split (suc i) (suc d) = lower (split i d)
  where
    lower : Split i d → Split (suc i) (suc d)
    lower (below h) = below (omega arith)
    lower (at h) = at (omega arith)
    lower (above h) = above (omega arith)

pub raise-bound : (k d i : ℕ) → i ≤ d → raise k d (var i) ≡ var i
unfolding raise
raise-bound k d i h = rw (le-leb i d h)

pub raise_free : (k d i : ℕ) → d < i → raise k d (var i) ≡ var (i + k)
unfolding raise
raise_free k d i h = rw (lt-leb i d h)

pub put-below : (d : ℕ) (a : Term) (i : ℕ) → i ≤ d → put d a (var i) ≡ var i
unfolding put
put-below d a i h = rw (compare_less i (suc d) (omega arith))

pub put_at : (d : ℕ) (a : Term) (i : ℕ) → i ≡ suc d → put d a (var i) ≡ raise d 0 a
unfolding put
put_at d a i e = rw (e, compare_same)

pub put-above : (d : ℕ) (a : Term) (i : ℕ) → suc d < i → put d a (var i) ≡ var (pred i)
unfolding put
put-above d a i h = rw (compare_more i (suc d) h)

pub ruleset index = (raise-bound, raise_free, put-below, put_at, put-above)
