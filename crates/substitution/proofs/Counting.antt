-- Where the argument is put in a term: how often, how deep, and how high the term is afterwards.
use Prim.Native.Nat.{ℕ, suc, pred, ◌+◌, ◌≤◌, compare, Ordering}
use mathlib.Core.Path.{◌≡◌, refl}
use native.Mathlib.Omega.{arith}
use Rattle.calculus.specs.Term.{Term, var, lam, app, nodes, height}
use Rattle.calculus.specs.Substitution.{raise, put, occurs, compared}
use Rattle.calculus.specs.Queries.{max_free}
use Rattle.calculus.proofs.Substituting.{Split, below, at, above, split, compare_less, compare_same, compare_more}
use Rattle.substitution.specs.Weighing.{deepest}
use Rattle.substitution.proofs.Lifting.{height-raise}

-- A VARIABLE, by whether its index equals its depth
pub record Variable (d : ℕ) (a : Term) (i copies place tall : ℕ) : Type 0 where
  pub occurs_is : occurs d (var i) ≡ copies
  pub deepest_is : deepest d (var i) ≡ place
  pub height_is : height (put d a (var i)) ≡ tall

pub index-here : (d : ℕ) (a : Term) (i : ℕ) → i ≡ suc d → Variable d a i 1 (suc d) (height a)
unfolding occurs deepest put
index-here d a i e = record {
  occurs_is = rw (e, compare_same);
  deepest_is = rw (e, compare_same);
  height_is = rw (e, compare_same) (height-raise d 0 a);
}

pub index_other : (d : ℕ) (a : Term) (i : ℕ) → (i ≡ suc d → ⊥) → Variable d a i 0 0 1
unfolding occurs deepest put height
index_other d a i other = by (split i d)
  where
    by : Split i d → Variable d a i 0 0 1
    by (below h) =
        let less = compare_less i (suc d) (omega arith) in
        record { occurs_is = rw less; deepest_is = rw less; height_is = rw less }
    by (at h) = absurd (other h)
    by (above h) =
        let more = compare_more i (suc d) h in
        record { occurs_is = rw more; deepest_is = rw more; height_is = rw more }

-- where no index is free beyond the depth it is put nowhere
pub none-put : {f d : ℕ} (t : Term) → f ≤ d → max_free f t ≡ 0 → (occurs d t ≡ 0) × (deepest d t ≡ 0)
unfolding occurs deepest max_free
none-put {f} {d} (var i) le h = rw (compare_less i (suc d) (omega arith)) (refl, refl)
none-put (lam b) le h = none-put b (omega arith) h
none-put (app l r) le h =
    let left = none-put l le (omega arith) in let right = none-put r le (omega arith) in (omega arith, omega arith)

-- no more often than there are nodes, no deeper than the term goes, and no higher than both together
pub record Within (d : ℕ) (a t : Term) : Type 0 where
  pub few : occurs d t ≤ nodes t
  pub near : deepest d t ≤ d + height t
  pub low : height (put d a t) ≤ height t + height a

pub within : (d : ℕ) (a t : Term) → Within d a t
unfolding occurs deepest put nodes height
within d a (var i) = let (few, near, low) = by (compare i (suc d)) in record { few = few; near = near; low = low }
  where
    by : (x : Ordering) → (compared x 0 1 0 ≤ 1) × (compared x 0 (suc d) 0 ≤ d + 1)
        × (height (compared x (var i) (raise d 0 a) (var (pred i))) ≤ 1 + height a)
    by Ordering.lt = (omega arith, omega arith, omega arith)
    by Ordering.eq = (omega arith, omega arith, omega (arith, height-raise d 0 a))
    by Ordering.gt = (omega arith, omega arith, omega arith)
within d a (lam b) = let x = within (suc d) a b in omega (arith, x)
within d a (app l r) = let x = within d a l in let y = within d a r in omega (arith, x, y)
