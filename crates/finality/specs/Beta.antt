-- One contraction at any place of a term, and what has no such place.
use Rattle.calculus.specs.Term.{Term, lam, app}
use Rattle.calculus.specs.Substitution.{contract}

pub data Beta : Term → Term → Type 0 where
  beta : {b a : Term} → Beta (app (lam b) a) (contract b a)
  in_lam : {b c : Term} → Beta b c → Beta (lam b) (lam c)
  in_left : {l m r : Term} → Beta l m → Beta (app l r) (app m r)
  in_right : {l r s : Term} → Beta r s → Beta (app l r) (app l s)

-- the same, told with the redex (\B) A that it contracts
pub data Contracts (b a : Term) : Term → Term → Type 0 where
  right_here : Contracts b a (app (lam b) a) (contract b a)
  below : {c d : Term} → Contracts b a c d → Contracts b a (lam c) (lam d)
  on_the_left : {l m r : Term} → Contracts b a l m → Contracts b a (app l r) (app m r)
  on_the_right : {l r s : Term} → Contracts b a r s → Contracts b a (app l r) (app l s)

-- no redex is left
abbrev pub Normal : Term → Type 0
Normal t = (u : Term) → Beta t u → ⊥

-- any number of steps of a relation
pub data Many (R : Term → Term → Type 0) : Term → Term → Type 0 where
  done : {t : Term} → Many R t t
  next : {t u v : Term} → R t u → Many R u v → Many R t v
