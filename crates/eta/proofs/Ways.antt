-- How a named term shrinks, as a relation to go by: what it keeps, and that each step takes three nodes.
use Prim.Native.Nat.{ℕ, suc, ◌+◌, ◌≤◌}
use mathlib.Core.Path.{◌≡◌, refl, ◌∙◌}
use mathlib.Core.Bool.{Bool, true, false, ◌&&◌, ◌||◌, cond, and-false}
use native.Mathlib.Omega.{arith}
use Rattle.calculus.proofs.Tests.{both}
use Rattle.eta.specs.Named.{Named, bound, loose, binds, joins, rise, weight, lone}
use Rattle.eta.specs.Shrinking.{ends_in, applied, Came, again, shrunk}
use Rattle.eta.proofs.Uses.{may_go, Place, as_place, Alike, alike_same, alike_then, alike_binds, alike_joins}
use Rattle.eta.proofs.Uses.{alike_lone, alike_place, lower-place, three_nodes}

module _ (more : ℕ → Bool) where
  -- ONCE A BODY IS DONE: the binder goes, only the limit keeps it, or it is none that may go
  pub data After (k : ℕ) : ℕ → Named → Bool → ℕ → Named → Bool → Type 0 where
    goes : {n : ℕ} {b : Named} {left : Bool} → Place k b → more n ≡ true → After k n b left (suc n) (applied b) left
    kept : {n : ℕ} {b : Named} {left : Bool} → Place k b → more n ≡ false → After k n b left n (binds k b) true
    stays : {n : ℕ} {b : Named} {left : Bool} → may_go k b ≡ false → After k n b left n (binds k b) left

  -- THE WHOLE WAY, from a term after n steps to one after m steps, with a place left or none
  pub data Way : ℕ → Named → ℕ → Named → Bool → Type 0 where
    at_bound : {n k : ℕ} → Way n (bound k) n (bound k) false
    at_loose : {n j : ℕ} → Way n (loose j) n (loose j) false
    at_place : {n k m : ℕ} {b σ : Named} {left : Bool} → Place k b → more n ≡ true → Way (suc n) (applied b) m σ left
        → Way n (binds k b) m σ left
    at_binder : {n k m m' : ℕ} {b σ σ' : Named} {left left' : Bool} → (may_go k b && more n) ≡ false
        → Way n b m σ left → After k m σ left m' σ' left'
        → Way n (binds k b) m' σ' left'
    at_joins : {n m m' : ℕ} {l r σ σ' : Named} {left left' : Bool} → Way n l m σ left → Way m r m' σ' left'
        → Way n (joins l r) m' (joins σ σ') (left || left')

  -- WHAT IS NAMED stays so
  alike_after : {k n m : ℕ} {left left' : Bool} {b σ : Named} → After k n b left m σ left' → Alike σ (binds k b)
  alike_after (goes p f) = alike_place p
  alike_after {k} (kept {b = b} p f) = alike_same (binds k b)
  alike_after {k} (stays {b = b} e) = alike_same (binds k b)

  alike_way : {n m : ℕ} {τ σ : Named} {left : Bool} → Way n τ m σ left → Alike σ τ
  alike_way (at_bound {k = k}) = alike_same (bound k)
  alike_way (at_loose {j = j}) = alike_same (loose j)
  alike_way (at_place p f w) = alike_then (alike_way w) (alike_place p)
  alike_way (at_binder {k = k} e w a) = alike_then (alike_after a) (alike_binds k (alike_way w))
  alike_way (at_joins w v) = alike_joins (alike_way w) (alike_way v)

  -- STEPS AND NODES together do not grow
  abbrev Lighter : (n : ℕ) (τ : Named) (m : ℕ) (σ : Named) → Type 0
  Lighter n τ m σ = m + weight σ ≤ n + weight τ

  lighter_after : {k n m : ℕ} {left left' : Bool} {b σ : Named} → After k n b left m σ left'
      → Lighter n (binds k b) m σ
  lighter_after (goes p f) = omega (arith, three_nodes p)
  lighter_after (kept p f) = omega arith
  lighter_after (stays e) = omega arith

  lighter_way : {n m : ℕ} {τ σ : Named} {left : Bool} → Way n τ m σ left → Lighter n τ m σ
  unfolding weight
  lighter_way at_bound = omega arith
  lighter_way at_loose = omega arith
  lighter_way (at_place p f w) = omega (arith, lighter_way w, three_nodes p)
  lighter_way (at_binder e w a) = omega (arith, lighter_way w, lighter_after a)
  lighter_way (at_joins w v) = omega (arith, lighter_way w, lighter_way v)

  -- BINDERS keep their levels
  abbrev Lower : Named → Named → Type 0
  Lower σ τ = rise σ ≤ rise τ

  lower-after : {k n m : ℕ} {left left' : Bool} {b σ : Named} → After k n b left m σ left' → Lower σ (binds k b)
  unfolding rise
  lower-after (goes p f) = omega (arith, lower-place p)
  lower-after (kept p f) = omega arith
  lower-after (stays e) = omega arith

  lower-way : {n m : ℕ} {τ σ : Named} {left : Bool} → Way n τ m σ left → Lower σ τ
  unfolding rise
  lower-way at_bound = omega arith
  lower-way at_loose = omega arith
  lower-way (at_place p f w) = omega (arith, lower-way w, lower-place p)
  lower-way (at_binder e w a) = omega (arith, lower-way w, lower-after a)
  lower-way (at_joins w v) = omega (arith, lower-way w, lower-way v)

  -- AT AN ABSTRACTION, whatever its body is
  shrunk-either : (n k : ℕ) (b : Named)
      → shrunk more n (binds k b)
      ≡ cond (may_go k b && more n) (shrunk more (suc n) (applied b)) (again more k (lone k b) (shrunk more n b))
  unfolding shrunk
  shrunk-either n k (bound m) = rw (and-false (lone k (bound m)))
  shrunk-either n k (loose j) = rw (and-false (lone k (loose j)))
  shrunk-either n k (binds m b) = rw (and-false (lone k (binds m b)))
  shrunk-either n k (joins l r) = refl

  pub shrunk-binds : (n k : ℕ) (b : Named) → (lone k b && ends_in k b && more n) ≡ false
      → shrunk more n (binds k b) ≡ again more k (lone k b) (shrunk more n b)
  shrunk-binds n k b e = shrunk-either n k b ∙ rw e

  pub shrunk-place : (n k : ℕ) (b : Named) → (lone k b && ends_in k b && more n) ≡ true
      → shrunk more n (binds k b) ≡ shrunk more (suc n) (applied b)
  shrunk-place n k b e = shrunk-either n k b ∙ rw e

  -- THE WAY THAT A TERM SHRINKS; whether its binder is lone is asked of the body before it is done
  after : (k : ℕ) (alone : Bool) (n : ℕ) (b : Named) (left : Bool) → lone k b ≡ alone
      → let c = again more k alone (n, b, left) in After k n b left c.0 c.1 c.2
  after k alone n b left same = by_tests (alone && ends_in k b) (rw same) (more n) refl
    where
      by_tests : (x : Bool) → may_go k b ≡ x → (y : Bool) → more n ≡ y
          → let c : Came = cond x (cond y (suc n, applied b, left) (n, binds k b, true)) (n, binds k b, left) in
          After k n b left c.0 c.1 c.2
      by_tests true e true f = goes (as_place k b e) f
      by_tests true e false f = kept (as_place k b e) f
      by_tests false e y f = stays e

  abbrev WayOf : ℕ → Named → Type 0
  WayOf n τ = let c = shrunk more n τ in Way n τ c.0 c.1 c.2

  way-binds : (n k : ℕ) (b : Named) → WayOf (suc n) (applied b) → WayOf n b → WayOf n (binds k b)
  way-binds n k b w v = rw (shrunk-either n k b) (by_test (may_go k b && more n) refl)
    where
      by_test : (x : Bool) → (may_go k b && more n) ≡ x
          → let c : Came = cond x (shrunk more (suc n) (applied b)) (again more k (lone k b) (shrunk more n b)) in
          Way n (binds k b) c.0 c.1 c.2
      by_test true e = let (f, g) = both (may_go k b) (more n) e in at_place (as_place k b f) g w
      by_test false e =
          let c = shrunk more n b in
          at_binder e v (after k (lone k b) c.0 c.1 c.2 (alike_lone k (alike_way v)))

  -- what a body applies shrinks too, where its binder goes first: so of both at once
  ways : (τ : Named) → ((n : ℕ) → WayOf n τ) × ((n : ℕ) → WayOf n (applied τ))
  unfolding shrunk
  ways (bound k) = (λ n. at_bound, λ n. at_bound)
  ways (loose j) = (λ n. at_loose, λ n. at_loose)
  ways (binds k b) =
      let (whole, part) = ways b in
      let here : (n : ℕ) → WayOf n (binds k b) = λ n. way-binds n k b (part (suc n)) (whole n) in
      (here, here)
  ways (joins l r) = (λ n. at_joins ((ways l).0 n) ((ways r).0 (shrunk more n l).0), (ways l).0)

  pub way : (n : ℕ) (τ : Named) → WayOf n τ
  way n τ = (ways τ).0 n

  -- SO SHRINKING keeps what is named, and takes nodes by steps
  pub lone-shrunk : (k n : ℕ) (b : Named) → lone k (shrunk more n b).1 ≡ lone k b
  lone-shrunk k n b = alike_lone k (alike_way (way n b))

  pub rise-shrunk : (n : ℕ) (τ : Named) → rise (shrunk more n τ).1 ≤ rise τ
  rise-shrunk n τ = lower-way (way n τ)

  pub steps-shrunk : (n : ℕ) (τ : Named) → (shrunk more n τ).0 + weight (shrunk more n τ).1 ≤ n + weight τ
  steps-shrunk n τ = lighter_way (way n τ)
