-- How many bytes a term takes: nine for a variable and one for any other node, so that what a cap asks for holds it.
use Prim.Native.Nat.{ℕ, suc, ◌+◌, ◌*◌, ◌≤◌, ◌<◌}
use mathlib.Core.Path.{◌≡◌, refl, ap, ◌∙◌}
use mathlib.Core.List.{List}
use native.Mathlib.Omega.{arith}
use lib.ListN.{length, drop, length-append, length-drop}
use Rattle.calculus.specs.Term.{Term, var, lam, app, nodes}
use Rattle.calculus.specs.Bytes.{digits, encode}
use Rattle.calculus.specs.Outcomes.{laid_over}

unfoldable pub size : Term → ℕ
size (var i) = 9
size (lam b) = suc (size b)
size (app l r) = suc (size l + size r)

pub length-encode : (t : Term) → length (encode t) ≡ size t
unfolding encode size digits
length-encode (var i) = refl
length-encode (lam b) = ap suc (length-encode b)
length-encode (app l r) = ap suc (length-append (encode l) (encode r) ∙ rw (length-encode l, length-encode r))

pub size_positive : (t : Term) → 0 < size t
unfolding size
size_positive (var i) = omega arith
size_positive (lam b) = omega arith
size_positive (app l r) = omega arith

pub nodes-size : (t : Term) → nodes t ≤ size t
unfolding nodes size
nodes-size (var i) = omega arith
nodes-size (lam b) = omega (arith, nodes-size b)
nodes-size (app l r) = omega (arith, nodes-size l, nodes-size r)

pub nine_per_node : (t : Term) → size t ≤ 9 * nodes t
unfolding size nodes
nine_per_node (var i) = omega arith
nine_per_node (lam b) = omega (arith, nine_per_node b)
nine_per_node (app l r) = omega (arith, nine_per_node l, nine_per_node r)

-- what is laid over a buffer that holds it leaves the buffer as long as it was
pub laid_length : (xs buffer : List ℕ) → length xs ≤ length buffer → length (laid_over xs buffer) ≡ length buffer
laid_length xs buffer h =
    length-append xs (drop (length xs) buffer) ∙ rw (length-drop (length xs) buffer) (omega arith)
