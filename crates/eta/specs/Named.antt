-- Terms whose variables name their binders, so that nothing moves when a binder goes.
use Rattle.std.specs.Prelude.{ℕ, zero, suc, ◌+◌, ◌-◌, max, leb, eqb, List, [], ◌∷◌, length}
use Rattle.std.specs.Prelude.{Bool, false, not, ◌&&◌, ◌||◌, cond}
use Rattle.calculus.specs.Term.{Term, var, lam, app}

-- a binder's name is its level: how many binders stood above it in the input
pub data Named : Type 0 where
  bound : (level : ℕ) → Named
  -- a free variable by its number, or index 0
  loose : (number : ℕ) → Named
  binds : (level : ℕ) → Named → Named
  joins : Named → Named → Named

-- the name of each variable, in a term under d abstractions
unfoldable pub named : ℕ → Term → Named
named d (var i) = cond (eqb i 0) (loose 0) (cond (leb i d) (bound (d - i)) (loose (i - d)))
named d (lam b) = binds d (named (suc d) b)
named d (app l r) = joins (named d l) (named d r)

-- how far out a binder is among those around, the innermost first
unfoldable pub place : ℕ → List ℕ → ℕ
place k [] = 1
place k (m ∷ around) = cond (eqb k m) 1 (suc (place k around))

-- the term that is meant, among the binders around
unfoldable pub plain : List ℕ → Named → Term
unfolding place
plain around (bound k) = var (place k around)
plain around (loose j) = cond (eqb j 0) (var 0) (var (j + length around))
plain around (binds k b) = lam (plain (k ∷ around) b)
plain around (joins l r) = app (plain around l) (plain around r)

-- the binders around a term under d abstractions
unfoldable pub levels : ℕ → List ℕ
levels zero = []
levels (suc d) = d ∷ levels d

-- above the levels of all its binders
unfoldable pub rise : Named → ℕ
rise (bound k) = 0
rise (loose j) = 0
rise (binds k b) = max (suc k) (rise b)
rise (joins l r) = max (rise l) (rise r)

-- how many nodes it has
unfoldable pub weight : Named → ℕ
weight (bound k) = 1
weight (loose j) = 1
weight (binds k b) = suc (weight b)
weight (joins l r) = suc (weight l + weight r)

-- how often a binder is named
unfoldable pub uses : ℕ → Named → ℕ
uses k (bound m) = cond (eqb m k) 1 0
uses k (loose j) = 0
uses k (binds m b) = cond (eqb m k) 0 (uses k b)
uses k (joins l r) = uses k l + uses k r

-- index 0 is in it
unfoldable pub has_zero : Named → Bool
has_zero (bound k) = false
has_zero (loose j) = eqb j 0
has_zero (binds k b) = has_zero b
has_zero (joins l r) = has_zero l || has_zero r

-- the binder is named once in its body, where index 0 is not
abbrev pub lone : ℕ → Named → Bool
unfolding uses has_zero
lone k b = eqb (uses k b) 1 && not (has_zero b)
