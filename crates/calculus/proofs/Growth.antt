-- How many nodes a contraction leaves.
use Prim.Native.Nat.{ℕ, suc, pred, ◌+◌, ◌*◌, compare, Ordering}
use mathlib.Core.Path.{◌≡◌, refl}
use mathlib.Core.Bool.{Bool, true, false, cond}
use native.Mathlib.Omega.{arith}
use lib.Dec.{leb}
use Rattle.calculus.specs.Term.{Term, var, lam, app, nodes}
use Rattle.calculus.specs.Substitution.{raise, put, contract, compared, occurs}

pub nodes-raise : (k d : ℕ) (t : Term) → nodes (raise k d t) ≡ nodes t
unfolding nodes raise
nodes-raise k d (var i) = by_test (leb i d)
  where
    by_test : (b : Bool) → nodes (cond b (var i) (var (i + k))) ≡ 1
    by_test true = refl
    by_test false = refl
nodes-raise k d (lam b) = rw (nodes-raise k (suc d) b)
nodes-raise k d (app l r) = rw (nodes-raise k d l, nodes-raise k d r)

-- each occurrence is a node that becomes the nodes of what is put
pub nodes-put : (d : ℕ) (a t : Term) → nodes (put d a t) + occurs d t ≡ nodes t + occurs d t * nodes a
unfolding nodes put occurs
nodes-put d a (var i) = by_side (compare i (suc d))
  where
    by_side : (x : Ordering)
        → nodes (compared x (var i) (raise d 0 a) (var (pred i))) + compared x 0 1 0 ≡ 1 + compared x 0 1 0 * nodes a
    by_side Ordering.lt = omega arith
    by_side Ordering.eq = rw (nodes-raise d 0 a) (omega arith)
    by_side Ordering.gt = omega arith
nodes-put d a (lam b) = omega (arith, nodes-put (suc d) a b)
nodes-put d a (app l r) = omega (arith, nodes-put d a l, nodes-put d a r)

-- a contraction of (\B) A changes the nodes by k(a-1) - a - 2, where A has a nodes and occurs k times
pub nodes-contract : (b a : Term)
    → nodes (contract b a) + (occurs 0 b + nodes a + 2) ≡ nodes (app (lam b) a) + occurs 0 b * nodes a
unfolding nodes
nodes-contract b a = omega (arith, nodes-put 0 a b)
