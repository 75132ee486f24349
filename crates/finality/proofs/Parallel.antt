-- Parallel reduction: any set of a term's redexes contracted at once; and Takahashi's complete development.
use Prim.Native.Nat.{ℕ, suc}
use native.Mathlib.Omega.{arith}
use Rattle.calculus.specs.Term.{Term, var, lam, app}
use Rattle.calculus.specs.Substitution.{raise, put, contract}
use Rattle.calculus.proofs.Substituting.{index, split, below, at, above}
use Rattle.finality.proofs.Commuting.{raise-put, put-put}

pub data Par : Term → Term → Type 0 where
  p_var : {i : ℕ} → Par (var i) (var i)
  p_lam : {b c : Term} → Par b c → Par (lam b) (lam c)
  p_app : {l m r s : Term} → Par l m → Par r s → Par (app l r) (app m s)
  p_beta : {b c a d : Term} → Par b c → Par a d → Par (app (lam b) a) (contract c d)

pub par_refl : (t : Term) → Par t t
par_refl (var i) = p_var
par_refl (lam b) = p_lam (par_refl b)
par_refl (app l r) = p_app (par_refl l) (par_refl r)

par_raise : (k d : ℕ) {t u : Term} → Par t u → Par (raise k d t) (raise k d u)
unfolding raise
par_raise k d (p_var {i}) = par_refl (raise k d (var i))
par_raise k d (p_lam p) = p_lam (par_raise k (suc d) p)
par_raise k d (p_app p q) = p_app (par_raise k d p) (par_raise k d q)
par_raise k d (p_beta {c} {d = a} p q) =
    rw (raise-put k d 0 d a (omega arith) c) (p_beta (par_raise k (suc d) p) (par_raise k d q))

pub par_put : (d : ℕ) {a b t u : Term} → Par a b → Par t u → Par (put d a t) (put d b u)
unfolding put
par_put d {a} {b} p (p_var {i}) =
    elim (split i d) [
      | below h ↦ simp index p_var
      | at h ↦ simp index (par_raise d 0 p)
      | above h ↦ simp index p_var
    ]
par_put d p (p_lam q) = p_lam (par_put (suc d) p q)
par_put d p (p_app q r) = p_app (par_put d p q) (par_put d p r)
par_put d {b} p (p_beta {c} {d = a} q r) =
    rw (put-put d 0 d b a (omega arith) c) (p_beta (par_put (suc d) p q) (par_put d p r))

-- every redex of a term contracted at once
pub develop : Term → Term
develop (var i) = var i
develop (lam b) = lam (develop b)
develop (app (var i) r) = app (var i) (develop r)
develop (app (lam b) r) = contract (develop b) (develop r)
develop (app (app l m) r) = app (develop (app l m)) (develop r)

-- whatever was contracted, contracting the rest leads to the complete development
pub triangle : {t u : Term} → Par t u → Par u (develop t)
unfolding develop
triangle p_var = p_var
triangle (p_lam p) = p_lam (triangle p)
triangle (p_app p_var q) = p_app p_var (triangle q)
triangle (p_app (p_lam p) q) = p_beta (triangle p) (triangle q)
triangle (p_app (p_app p q) r) = p_app (triangle (p_app p q)) (triangle r)
triangle (p_app (p_beta p q) r) = p_app (triangle (p_beta p q)) (triangle r)
triangle (p_beta p q) = par_put 0 (triangle q) (triangle p)
