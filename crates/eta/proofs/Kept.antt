-- What is kept when nodes are added: the named terms that the nodes before are.
use Prim.Native.Nat.{ℕ, ◌+◌, ◌*◌, ◌/◌, ◌%◌, ◌<◌}
use mathlib.Core.Path.{◌≡◌}
use mathlib.Core.List.{List}
use native.Mathlib.Omega.{arith}
use Rattle.nodes.specs.Store.{Same, word, link}
use Rattle.eta.specs.Named.{Named, bound, loose, binds, joins}
use Rattle.eta.specs.Store.{Names}

-- both numbers of a node below those that were added
numbers_kept : {xs ys : List ℕ} {u : ℕ} (n : ℕ) → Same xs ys u → n < u
    → (word ys n ≡ word xs n) × (link ys n ≡ link xs n)
numbers_kept n same lt = (same.kept (2 * n) (omega arith), same.kept (2 * n + 1) (omega arith))

pub names-kept : {xs ys : List ℕ} {u : ℕ} (t : Named) (n : ℕ) → Same xs ys u → n < u → Names xs t n → Names ys t n
unfolding Names
names-kept (bound k) n same lt h = let (w, x) = numbers_kept n same lt in rw (w, x) h
names-kept (loose j) n same lt h = let (w, x) = numbers_kept n same lt in rw (w, x) h
names-kept {xs} (binds k b) n same lt h =
    let (w, x) = numbers_kept n same lt in
    rw (w, x) (h.0, h.1, names-kept b (link xs n) same (omega arith) h.2)
names-kept {xs} (joins l r) n same lt h =
    let (w, x) = numbers_kept n same lt in
    let left = names-kept l (link xs n % 4294967296) same (omega arith) h.3 in
    let right = names-kept r (link xs n / 4294967296) same (omega arith) h.4 in
    rw (w, x) (h.0, h.1, h.2, left, right)
