-- The contraction of one redex, by de Bruijn's rule.
use Prim.Native.Nat.{ℕ, suc, ◌+◌, pred, compare, Ordering}
use Rattle.std.specs.Prelude.{cond, leb}
use Rattle.calculus.specs.Term.{Term, var, lam, app}

-- by how an index compares with its depth: smaller, equal or greater
abbrev pub compared : {A : Type 0} → Ordering → A → A → A → A
compared Ordering.lt smaller equal greater = smaller
compared Ordering.eq smaller equal greater = equal
compared Ordering.gt smaller equal greater = greater

-- the free indices raised by k, of a term that lies under d abstractions of its own; index 0 stays, as bound ones do
unfoldable pub raise : ℕ → ℕ → Term → Term
raise k d (var i) = cond (leb i d) (var i) (var (i + k))
raise k d (lam b) = lam (raise k (suc d) b)
raise k d (app l r) = app (raise k d l) (raise k d r)

-- in a term under d abstractions, and so at depth d + 1: an index equal to its depth becomes `a` with its free indices
-- raised by its depth less 1, a greater index falls by 1, a smaller one stays
unfoldable pub put : ℕ → Term → Term → Term
unfolding raise
put d a (var i) = compared (compare i (suc d)) (var i) (raise d 0 a) (var (pred i))
put d a (lam b) = lam (put (suc d) a b)
put d a (app l r) = app (put d a l) (put d a r)

-- (\B) A contracted
abbrev pub contract : Term → Term → Term
contract b a = put 0 a b

-- how often the index that equals its depth occurs, in a term under d abstractions
unfoldable pub occurs : ℕ → Term → ℕ
occurs d (var i) = compared (compare i (suc d)) 0 1 0
occurs d (lam b) = occurs (suc d) b
occurs d (app l r) = occurs d l + occurs d r
