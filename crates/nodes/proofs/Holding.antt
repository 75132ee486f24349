-- What a node is: no more than one term, and with no index that is too great.
use Prim.Native.Nat.{ℕ, ◌+◌, ◌*◌, ◌/◌, ◌%◌, ◌^◌, ◌≤◌, ◌<◌}
use mathlib.Core.Path.{◌≡◌, refl, sym, ap, ap₂, ◌∙◌}
use mathlib.Core.List.{List}
use native.Mathlib.Omega.{arith}
use lib.ListN.{get_or}
use Rattle.calculus.specs.Term.{Term, var, lam, app, greatest_index}
use Rattle.calculus.specs.Bounds.{greatest_number}
use Rattle.nodes.specs.Store.{Holds, kind, word, link}
use Rattle.nodes.proofs.Parts.{reads_variable, reads_abstraction, reads_application}
use Rattle.nodes.proofs.Parts.{held-variable, held-abstraction, held-application}

pub held_once : (xs : List ℕ) (n : ℕ) (t u : Term) → Holds xs t n → Holds xs u n → t ≡ u
unfolding Holds kind
held_once xs n (var i) u h g =
    let is = reads_variable (word xs n) (link xs n) h.0.kind_is in
    sym (held-variable xs n refl u g is ∙ ap var h.1)
held_once xs n (lam b) u h g =
    let v = held-abstraction xs n refl u g (reads_abstraction (word xs n) (link xs n) h.0.kind_is) in
    ap lam (held_once xs (link xs n) b v.body h.2 v.held) ∙ sym v.same
held_once xs n (app l r) u h g =
    let v = held-application xs n refl u g (reads_application (word xs n) (link xs n) h.0.kind_is) in
    let left = held_once xs (link xs n % 4294967296) l v.left h.3 v.left_held in
    let right = held_once xs (link xs n / 4294967296) r v.right h.4 v.right_held in
    ap₂ app left right ∙ sym v.same

pub indices_fit : (xs : List ℕ) (n : ℕ) (t : Term) → ((k : ℕ) → get_or xs k 0 < 2 ^ 64) → Holds xs t n
    → greatest_index t ≤ greatest_number
unfolding Holds greatest_index
indices_fit xs n (var i) fit h = omega (arith, h.1, fit (2 * n + 1))
indices_fit xs n (lam b) fit h = indices_fit xs (link xs n) b fit h.2
indices_fit xs n (app l r) fit h =
    let left = indices_fit xs (link xs n % 4294967296) l fit h.3 in
    let right = indices_fit xs (link xs n / 4294967296) r fit h.4 in
    omega arith
