-- What lowering and one eta contraction do to nodes, height, indices and the places that are left.
use Prim.Native.Nat.{ℕ, suc, pred, ◌+◌, ◌≤◌, ◌<◌}
use mathlib.Core.Path.{◌≡◌, refl, ap, ap₂, sym, ◌∙◌}
use mathlib.Core.Bool.{Bool, true, false, not, ◌&&◌, ◌||◌, cond, true≢false}
use mathlib.Core.Option.{Option, none, some}
use native.Mathlib.Omega.{arith}
use native.Mathlib.Decide.{dec_le}
use borrow.Author.Tests.{le-leb, lt-leb, ne_eqb, eqb-true}
use lib.Dec.{eqb}
use Rattle.calculus.specs.Term.{Term, var, lam, app, nodes, height, greatest_index}
use Rattle.calculus.specs.Eta.{blocked, lower, is_one, eta_body, eta_step, is_some, has_place}
use Rattle.calculus.specs.Ends.{EtaStep, at_root, in_body, in_left, in_right}

pub lower_stays : (d i : ℕ) → i ≤ suc d → lower d (var i) ≡ var i
unfolding lower
lower_stays d i h = rw (le-leb i (suc d) h)

pub lower_falls : (d i : ℕ) → suc d < i → lower d (var i) ≡ var (pred i)
unfolding lower
lower_falls d i h = rw (lt-leb i (suc d) h)

-- a fact about the index that a variable has afterwards
lowered : (P : Term → Type 0) (d i : ℕ) → (i ≤ suc d → P (var i)) → (suc d < i → P (var (pred i))) → P (lower d (var i))
lowered P d i stays falls =
    elim (dec_le i (suc d)) [
      | yes h ↦ rw (lower_stays d i h) (stays h)
      | no h ↦ let g : suc d < i = omega arith in rw (lower_falls d i g) (falls g)
    ]

pub nodes-lower : (d : ℕ) (t : Term) → nodes (lower d t) ≡ nodes t
unfolding nodes lower
nodes-lower d (var i) = lowered (λ t. nodes t ≡ 1) d i (λ h. refl) (λ h. refl)
nodes-lower d (lam b) = ap suc (nodes-lower (suc d) b)
nodes-lower d (app l r) = rw (nodes-lower d l, nodes-lower d r)

pub height-lower : (d : ℕ) (t : Term) → height (lower d t) ≡ height t
unfolding height lower
height-lower d (var i) = lowered (λ t. height t ≡ 1) d i (λ h. refl) (λ h. refl)
height-lower d (lam b) = ap suc (height-lower (suc d) b)
height-lower d (app l r) = rw (height-lower d l, height-lower d r)

pub index-lower : (d : ℕ) (t : Term) → greatest_index (lower d t) ≤ greatest_index t
unfolding greatest_index lower
index-lower d (var i) =
    lowered (λ t. greatest_index t ≤ i) d i (λ h. omega arith) (λ h. let less : pred i ≤ i = omega arith in less)
index-lower d (lam b) = index-lower (suc d) b
index-lower d (app l r) = omega (arith, index-lower d l, index-lower d r)

-- LOWERING NEITHER MAKES NOR TAKES A PLACE
-- no index comes to be, or ceases to be, that of a binder below
blocked-lower : (c d : ℕ) → c < d → (t : Term) → blocked c (lower d t) ≡ blocked c t
unfolding blocked lower
blocked-lower c d h (var i) =
    lowered (λ t. blocked c t ≡ blocked c (var i)) d i (λ g. refl)
    (λ g.
    rw (
      ne_eqb (pred i) 0 (λ e. omega arith),
      ne_eqb (pred i) (suc c) (λ e. omega arith),
      ne_eqb i 0 (λ e. omega arith),
      ne_eqb i (suc c) (λ e. omega arith),
    ))
blocked-lower c d h (lam b) = blocked-lower (suc c) (suc d) (omega arith) b
blocked-lower c d h (app l r) = ap₂ ◌||◌ (blocked-lower c d h l) (blocked-lower c d h r)

one_lower : (d : ℕ) (t : Term) → is_one (lower (suc d) t) ≡ is_one t
unfolding lower
one_lower d (var i) =
    lowered (λ t. is_one t ≡ eqb i 1) (suc d) i (λ g. refl)
    (λ g. rw (ne_eqb (pred i) 1 (λ e. omega arith), ne_eqb i 1 (λ e. omega arith)))
one_lower d (lam b) = refl
one_lower d (app l r) = refl

some_if : (b : Bool) (t : Term) → is_some (cond b (some t) none) ≡ b
some_if true t = refl
some_if false t = refl

-- a variable is no body of a place, whatever its index
body-var : (d i : ℕ) → is_some (eta_body (lower d (var i))) ≡ false
body-var d i = lowered (λ t. is_some (eta_body t) ≡ false) d i (λ g. refl) (λ g. refl)

body-lower : (d : ℕ) (b : Term) → is_some (eta_body (lower (suc d) b)) ≡ is_some (eta_body b)
unfolding lower
body-lower d (var i) = body-var (suc d) i
body-lower d (lam b) = refl
body-lower d (app m a) =
    some_if (is_one (lower (suc d) a) && not (blocked 0 (lower (suc d) m))) _
    ∙ ap₂ (λ one block. one && not block) (one_lower d a) (blocked-lower 0 (suc d) (omega arith) m)
    ∙ sym (some_if (is_one a && not (blocked 0 m)) _)

var-place : (d i : ℕ) → has_place (lower d (var i)) ≡ false
unfolding has_place
var-place d i = lowered (λ t. has_place t ≡ false) d i (λ g. refl) (λ g. refl)

pub place-lower : (d : ℕ) (t : Term) → has_place (lower d t) ≡ has_place t
unfolding has_place lower
place-lower d (var i) = var-place d i
place-lower d (lam b) = ap₂ ◌||◌ (body-lower d b) (place-lower (suc d) b)
place-lower d (app l r) = ap₂ ◌||◌ (place-lower d l) (place-lower d r)

-- ONE CONTRACTION: what it is
pub data EtaView : Term → Option Term → Type 0 where
  place : {m : Term} → blocked 0 m ≡ false → EtaView (lam (app m (var 1))) (some (lower 0 m))
  no_place : {t : Term} → EtaView t none

view_body : (m a : Term) (b : Bool) → is_one a ≡ true → blocked 0 m ≡ b
    → EtaView (lam (app m a)) (cond (not b) (some (lower 0 m)) none)
view_body m (var i) true o e = no_place
view_body m (var i) false o e = let one : i ≡ 1 = eqb-true i 1 o in rw one (place e)
view_body m (lam c) b o e = absurd (true≢false (sym o))
view_body m (app c d) b o e = absurd (true≢false (sym o))

pub eta_view : (t : Term) → EtaView t (eta_step t)
eta_view (var i) = no_place
eta_view (lam (var i)) = no_place
eta_view (lam (lam b)) = no_place
eta_view (lam (app m a)) = by_one (is_one a) refl
  where
    by_one : (o : Bool) → is_one a ≡ o → EtaView (lam (app m a)) (cond (o && not (blocked 0 m)) (some (lower 0 m)) none)
    by_one true e = view_body m a (blocked 0 m) e refl
    by_one false e = no_place
eta_view (app l r) = no_place

-- ONE CONTRACTION, at any place, takes three nodes and raises neither height nor index
pub record Smaller (t u : Term) : Type 0 where
  pub three_nodes : nodes t ≡ 3 + nodes u
  pub no_higher : height u ≤ height t
  pub no_greater : greatest_index u ≤ greatest_index t

smaller_at : {t u : Term} {x : Option Term} → EtaView t x → x ≡ some u → Smaller t u
unfolding nodes height greatest_index
smaller_at {u = u} (place {m = m} b) e =
    let same : lower 0 m ≡ u = cc in
    rw (← same) (omega (arith, nodes-lower 0 m, height-lower 0 m, index-lower 0 m))
smaller_at no_place e = let never : ◌≡◌ {A = ℕ} 0 1 = cc in absurd (omega arith)

pub eta_smaller : {t u : Term} → EtaStep t u → Smaller t u
unfolding nodes height greatest_index
eta_smaller (at_root {t = t} e) = smaller_at (eta_view t) e
eta_smaller (in_body s) = omega (arith, eta_smaller s)
eta_smaller (in_left s) = omega (arith, eta_smaller s)
eta_smaller (in_right s) = omega (arith, eta_smaller s)
