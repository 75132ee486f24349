-- What a variable is called: by its binder if there is one so far out, else by its number.
use Prim.Native.Nat.{ℕ, ◌-◌, ◌≤◌, ◌<◌}
use mathlib.Core.Path.{◌≡◌, refl}
use mathlib.Core.Bool.{Bool, true, false, cond}
use native.Mathlib.Omega.{arith}
use lib.Dec.{leb, eqb}
use borrow.Author.Tests.{leb-false, eq-eqb, ne_eqb, le-leb, lt-leb}
use Rattle.calculus.specs.Term.{var}
use Rattle.eta.specs.Named.{bound, loose, named, has_zero}

module _ (d i : ℕ) where
  pub called_zero : i ≡ 0 → named d (var i) ≡ loose 0
  unfolding named
  called_zero e = rw (eq-eqb i 0 e)

  module _ (some : i ≡ 0 → ⊥) where
    pub called_loose : d < i → named d (var i) ≡ loose (i - d)
    unfolding named
    called_loose lt = rw (ne_eqb i 0 some, lt-leb i d lt)

    pub called_bound : i ≤ d → named d (var i) ≡ bound (d - i)
    unfolding named
    called_bound le = rw (ne_eqb i 0 some, le-leb i d le)

  -- index 0 is no other variable
  pub zero-variable : has_zero (named d (var i)) ≡ eqb i 0
  unfolding named has_zero
  zero-variable = by (eqb i 0) (leb i d) refl
    where
      by : (p q : Bool) → leb i d ≡ q → has_zero (cond p (loose 0) (cond q (bound (d - i)) (loose (i - d)))) ≡ p
      by true q e = refl
      by false true e = refl
      by false false e = let above = leb-false i d e in ne_eqb (i - d) 0 (λ z. omega arith)
