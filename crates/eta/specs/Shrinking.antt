-- Eta's sequence of places on named terms: what is contracted, and whether only the limit left a place.
use Rattle.std.specs.Prelude.{ℕ, suc, Bool, true, false, ◌&&◌, ◌||◌, cond, eqb}
use Rattle.eta.specs.Named.{Named, bound, loose, binds, joins, uses, has_zero, lone}

-- whether it is an application to the binder
abbrev pub ends_in : ℕ → Named → Bool
ends_in k (bound m) = false
ends_in k (loose j) = false
ends_in k (binds m b) = false
ends_in k (joins l (bound m)) = eqb m k
ends_in k (joins l (loose j)) = false
ends_in k (joins l (binds m b)) = false
ends_in k (joins l (joins m r)) = false

-- what an application applies
abbrev pub applied : Named → Named
applied (bound k) = bound k
applied (loose j) = loose j
applied (binds k b) = binds k b
applied (joins l r) = l

-- the steps made, the term reached, and whether a place is left
abbrev pub Came : Type 0
Came = ℕ × Named × Bool

-- AT AN ABSTRACTION AGAIN: once its body is done
abbrev pub again : (more : ℕ → Bool) (k : ℕ) (alone : Bool) → Came → Came
again more k alone c =
    cond (alone && ends_in k c.1)
    (cond (more c.0) (suc c.0, applied c.1, c.2) (c.0, binds k c.1, true))
    (c.0, binds k c.1, c.2)

-- an application once its parts are done
abbrev pub beside : Came → Came → Came
beside c d = (d.0, joins c.1 d.1, c.2 || d.2)

-- a place is contracted before its parts are done, or its body is done first
abbrev pub either_way : (more : ℕ → Bool) (k : ℕ) (n : ℕ) (b : Named) → (before after : Came) → Came
unfolding uses has_zero
either_way more k n b before after =
    cond (lone k b && ends_in k b && more n) before (again more k (lone k b) after)

-- the whole sequence: at a node contract while possible, then do the parts, left first, then contract again
unfoldable pub shrunk : (more : ℕ → Bool) → ℕ → Named → Came
unfolding uses has_zero
shrunk more n (bound k) = (n, bound k, false)
shrunk more n (loose j) = (n, loose j, false)
shrunk more n (binds k (bound m)) = again more k (lone k (bound m)) (shrunk more n (bound m))
shrunk more n (binds k (loose j)) = again more k (lone k (loose j)) (shrunk more n (loose j))
shrunk more n (binds k (binds m b)) = again more k (lone k (binds m b)) (shrunk more n (binds m b))
shrunk more n (binds k (joins l r)) =
    either_way more k n (joins l r) (shrunk more (suc n) l) (shrunk more n (joins l r))
shrunk more n (joins l r) = let c = shrunk more n l in beside c (shrunk more c.0 r)
