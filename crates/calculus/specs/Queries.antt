-- What is asked of a whole term, besides its nodes and its height.
use Rattle.std.specs.Prelude.{ℕ, suc, ◌-◌, max, Bool, false, not, ◌&&◌, ◌||◌, eqb}
use Rattle.calculus.specs.Numbers.{between}
use Rattle.calculus.specs.Term.{Term, var, lam, app}

-- the most abstractions on a path
unfoldable pub max_depth : Term → ℕ
max_depth (var i) = 0
max_depth (lam b) = suc (max_depth b)
max_depth (app l r) = max (max_depth l) (max_depth r)

-- under d abstractions, some index is 0 or free: it is none of the bound indices 1 to d
unfoldable pub has_free : ℕ → Term → Bool
has_free d (var i) = not (between 1 d i)
has_free d (lam b) = has_free (suc d) b
has_free d (app l r) = has_free d l || has_free d r

abbrev pub has_free_variables : Term → Bool
has_free_variables t = has_free 0 t

abbrev pub is_supercombinator : Term → Bool
is_supercombinator t = not (has_free_variables t)

-- under d abstractions, the greatest of index minus depth, floored at 0
unfoldable pub max_free : ℕ → Term → ℕ
max_free d (var i) = i - d
max_free d (lam b) = max_free (suc d) b
max_free d (app l r) = max (max_free d l) (max_free d r)

abbrev pub max_free_index : Term → ℕ
max_free_index t = max_free 0 t

-- the same kinds and indices throughout
unfoldable pub same : Term → Term → Bool
same (var i) (var j) = eqb i j
same (var i) (lam c) = false
same (var i) (app m s) = false
same (lam b) (var j) = false
same (lam b) (lam c) = same b c
same (lam b) (app m s) = false
same (app l r) (var j) = false
same (app l r) (lam c) = false
same (app l r) (app m s) = same l m && same r s
