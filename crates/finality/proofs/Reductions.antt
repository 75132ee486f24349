-- Many steps: one after another, and carried over by a function on terms.
use mathlib.Core.Path.{◌≡◌, refl}
use Rattle.calculus.specs.Term.{Term}
use Rattle.finality.specs.Beta.{Beta, Normal, Many, done, next}

pub many_trans : {R : Term → Term → Type 0} {t u v : Term} → Many R t u → Many R u v → Many R t v
many_trans done q = q
many_trans (next r p) q = next r (many_trans p q)

-- a function on terms that keeps the steps of R, as steps of S, keeps many of them
pub many-map : {R S : Term → Term → Type 0} (f : Term → Term) → ((t u : Term) → R t u → S (f t) (f u)) → {t u : Term}
    → Many R t u → Many S (f t) (f u)
many-map f keep done = done
many-map f keep (next {t} {u} r p) = next (keep t u r) (many-map f keep p)

-- a normal form has no other reduct than itself
pub many-normal : {t u : Term} → Normal t → Many Beta t u → t ≡ u
many-normal n done = refl
many-normal n (next {u = v} r p) = absurd (n v r)
