-- What dropping a binder does to the term that is meant: its indices are lowered, and it is a place just if it may go.
use Prim.Native.Nat.{ℕ, suc, ◌+◌, ◌≤◌, ◌<◌}
use mathlib.Core.Path.{◌≡◌, refl, sym, ap, ap₂, ◌∙◌}
use mathlib.Core.Bool.{Bool, true, false, not, ◌&&◌, ◌||◌, and-true, and-false, or-false}
use mathlib.Core.List.{List, [], ◌∷◌}
use mathlib.Core.Option.{none, some}
use native.Mathlib.Nat.{zero-add}
use native.Mathlib.Omega.{arith}
use native.Mathlib.Decide.{ℕ_discrete}
use borrow.Author.Tests.{eq-eqb, ne_eqb}
use lib.Dec.{eqb}
use lib.ListN.{length}
use Rattle.calculus.specs.Term.{var, lam, app}
use Rattle.calculus.specs.Eta.{blocked, lower, is_one, eta_body, eta_step, has_place}
use Rattle.calculus.proofs.Lowering.{lower_stays, lower_falls, place-lower}
use Rattle.eta.specs.Named.{Named, bound, loose, binds, joins, place, plain, uses, has_zero, lone}
use Rattle.eta.specs.Scope.{Among, first, later, top, Scoped}
use Rattle.eta.specs.Shrinking.{ends_in, applied}
use Rattle.eta.proofs.Levels.{of_loose}
use Rattle.eta.proofs.Uses.{absent, lone-applied, may_go, Place, applies}

-- THE BINDERS AROUND, with k and without, where d binders stand inside it
data Without (k : ℕ) : ℕ → List ℕ → List ℕ → Type 0 where
  here : {around : List ℕ} → top around ≤ k → Without k 0 (k ∷ around) around
  inside : {d m : ℕ} {xs ys : List ℕ} → k < m → Without k d xs ys → Without k (suc d) (m ∷ xs) (m ∷ ys)

-- what they measure
record Measured (k d : ℕ) (xs ys : List ℕ) : Type 0 where
  pub one_fewer : length xs ≡ suc (length ys)
  pub deep : d ≤ length ys
  pub top_above : k < top xs
  pub top_falls : top ys ≤ top xs

measured : {k d : ℕ} {xs ys : List ℕ} → Without k d xs ys → Measured k d xs ys
measured (here h) = omega arith
measured (inside h w) = omega (arith, measured w)

place_positive : (k : ℕ) (xs : List ℕ) → 0 < place k xs
unfolding place
place_positive k [] = omega arith
place_positive k (m ∷ xs) =
    elim (ℕ_discrete k m) [ yes e ↦ rw (eq-eqb k m e) (omega arith) | no e ↦ rw (ne_eqb k m e) (omega arith) ]

-- the dropped binder's own index
place_dropped : {k d : ℕ} {xs ys : List ℕ} → Without k d xs ys → place k xs ≡ suc d
unfolding place
place_dropped {k} (here h) = rw (eq-eqb k k refl)
place_dropped {k} (inside {m = m} h w) = rw (ne_eqb k m (λ e. omega arith), place_dropped w)

-- every other index: it is that of a binder inside, or it falls
data Moves (d i j : ℕ) : Type 0 where
  inner : i ≡ j → i ≤ d → Moves d i j
  outer : i ≡ suc j → d < j → Moves d i j

moves-inside : {d i j : ℕ} → Moves d i j → Moves (suc d) (suc i) (suc j)
moves-inside (inner e h) = inner (omega arith) (omega arith)
moves-inside (outer e h) = outer (omega arith) (omega arith)

moves-lower : {d i j : ℕ} → Moves d i j → lower d (var i) ≡ var j
moves-lower {d} {i} (inner e h) = lower_stays d i (omega arith) ∙ ap var e
moves-lower {d} {i} (outer e h) = lower_falls d i (omega arith) ∙ ap var (omega arith)

moves_other : {d i j : ℕ} → Moves d i j → i ≡ suc d → ⊥
moves_other (inner e h) f = omega arith
moves_other (outer e h) f = omega arith

place-moves : {k d : ℕ} {xs ys : List ℕ} → Without k d xs ys → (j : ℕ) → (j ≡ k → ⊥)
    → Moves d (place j xs) (place j ys)
unfolding place
place-moves {k} (here {around} h) j o = rw (ne_eqb j k o) (outer refl (place_positive j around))
place-moves (inside {m = m} h w) j o =
    elim (ℕ_discrete j m) [
      | yes e ↦ rw (eq-eqb j m e) (inner refl (omega arith))
      | no e ↦ rw (ne_eqb j m e) (moves-inside (place-moves w j o))
    ]

loose-moves : {k d : ℕ} {xs ys : List ℕ} → Without k d xs ys → (j : ℕ) → 0 < j
    → Moves d (j + length xs) (j + length ys)
loose-moves w j h = outer (omega (arith, measured w)) (omega (arith, measured w))

-- how often k is named
uses_self : (k : ℕ) → uses k (bound k) ≡ 1
unfolding uses
uses_self k = rw (eq-eqb k k refl)

uses_other : (k j : ℕ) → (j ≡ k → ⊥) → uses k (bound j) ≡ 0
unfolding uses
uses_other k j o = rw (ne_eqb j k o)

uses-inside : (k m : ℕ) (b : Named) → k < m → uses k (binds m b) ≡ uses k b
unfolding uses
uses-inside k m b h = rw (ne_eqb m k (λ e. omega arith))

-- a binder that is not named is another one
unnamed : (k j : ℕ) → uses k (bound j) ≡ 0 → j ≡ k → ⊥
unnamed k j u e = let one : uses k (bound j) ≡ 1 = rw e (uses_self k) in omega arith

unnamed-inside : (k m : ℕ) (b : Named) → k < m → uses k (binds m b) ≡ 0 → uses k b ≡ 0
unnamed-inside k m b h u = sym (uses-inside k m b h) ∙ u

unnamed-parts : (k : ℕ) (l r : Named) → uses k (joins l r) ≡ 0 → (uses k l ≡ 0) × (uses k r ≡ 0)
unfolding uses
unnamed-parts k l r u = (omega arith, omega arith)

-- WHERE k IS NOT NAMED, the term without it is the lowered one
lower-plain : {k d : ℕ} {xs ys : List ℕ} → Without k d xs ys → (τ : Named) → Scoped xs τ → uses k τ ≡ 0
    → lower d (plain xs τ) ≡ plain ys τ
unfolding plain lower Scoped
lower-plain {k} w (bound j) s u = moves-lower (place-moves w j (unnamed k j u))
lower-plain {d = d} w (loose j) s u =
    elim (ℕ_discrete j 0) [
      | yes e ↦ rw (eq-eqb j 0 e) (lower_stays d 0 (omega arith))
      | no e ↦ rw (ne_eqb j 0 e) (moves-lower (loose-moves w j (omega arith)))
    ]
lower-plain {k} w (binds m b) (t, _, s) u =
    let h : k < m = omega (arith, measured w) in
    ap lam (lower-plain (inside h w) b s (unnamed-inside k m b h u))
lower-plain {k} w (joins l r) (s, t) u =
    let (v, x) = unnamed-parts k l r u in
    ap₂ app (lower-plain w l s v) (lower-plain w r t x)

among_tail : {j m : ℕ} {xs : List ℕ} → Among j (m ∷ xs) → (j ≡ m → ⊥) → Among j xs
among_tail first o = absurd (o refl)
among_tail (later a) o = a

among_without : {k d j : ℕ} {xs ys : List ℕ} → Without k d xs ys → Among j xs → (j ≡ k → ⊥) → Among j ys
among_without (here h) a o = among_tail a o
among_without {j = j} (inside {m = m} h w) a o =
    elim (ℕ_discrete j m) [ yes e ↦ rw e first | no e ↦ later (among_without w (among_tail a e) o) ]

scoped_without : {k d : ℕ} {xs ys : List ℕ} → Without k d xs ys → (τ : Named) → Scoped xs τ → uses k τ ≡ 0
    → Scoped ys τ
unfolding Scoped
scoped_without {k} w (bound j) s u = among_without w s (unnamed k j u)
scoped_without w (loose j) s u = omega (arith, measured w)
scoped_without {k} w (binds m b) (t, c, s) u =
    let h : k < m = omega (arith, measured w) in
    (omega (arith, measured w), c, scoped_without (inside h w) b s (unnamed-inside k m b h u))
scoped_without {k} w (joins l r) (s, t) u =
    let (v, x) = unnamed-parts k l r u in
    (scoped_without w l s v, scoped_without w r t x)

-- WHAT BLOCKS A PLACE is the binder or index 0 by name
blocked_own : (d : ℕ) → blocked d (var (suc d)) ≡ true
unfolding blocked
blocked_own d = rw (ne_eqb (suc d) 0 (λ e. omega arith), eq-eqb (suc d) (suc d) refl)

blocked-not : (d i : ℕ) → 0 < i → (i ≡ suc d → ⊥) → blocked d (var i) ≡ false
unfolding blocked
blocked-not d i h o = rw (ne_eqb i 0 (λ e. omega arith), ne_eqb i (suc d) o)

none_of_both : (u v : ℕ) → eqb (u + v) 0 ≡ (eqb u 0 && eqb v 0)
none_of_both u v =
    elim (ℕ_discrete u 0) [
      | yes e ↦ rw (eq-eqb u 0 e, e, zero-add v)
      | no e ↦ rw (ne_eqb u 0 e, ne_eqb (u + v) 0 (λ f. e (omega arith)))
    ]

apart : (b c : Bool) → not (b || c) ≡ (not b && not c)
apart true c = refl
apart false c = refl

two_and_two : (a b c d : Bool) → ((a && b) && (c && d)) ≡ ((a && c) && (b && d))
two_and_two true true c d = refl
two_and_two true false true d = refl
two_and_two true false false d = refl
two_and_two false b c d = refl

absent_parts : (k : ℕ) (l r : Named) → (absent k l && absent k r) ≡ absent k (joins l r)
unfolding uses has_zero
absent_parts k l r =
    rw (none_of_both (uses k l) (uses k r), apart (has_zero l) (has_zero r))
    (two_and_two (eqb (uses k l) 0) (not (has_zero l)) (eqb (uses k r) 0) (not (has_zero r)))

not-blocked : {k d : ℕ} {xs ys : List ℕ} → Without k d xs ys → (τ : Named) → Scoped xs τ
    → not (blocked d (plain xs τ)) ≡ absent k τ
unfolding plain blocked Scoped uses has_zero
not-blocked {k} {d} {xs} w (bound j) s =
    elim (ℕ_discrete j k) [
      | yes e ↦ rw (e, place_dropped w, blocked_own d, uses_self k)
      | no e ↦
          rw (blocked-not d (place j xs) (place_positive j xs) (moves_other (place-moves w j e)), uses_other k j e)
    ]
not-blocked {k} {d} {xs} w (loose j) s =
    of_loose (λ t. not (blocked d t) ≡ not (eqb j 0)) xs j
    (λ e. rw e)
    (λ h.
    rw (
      blocked-not d (j + length xs) (omega arith) (moves_other (loose-moves w j h)),
      ne_eqb j 0 (λ e. omega arith),
    ))
not-blocked {k} w (binds m b) (t, _, s) =
    let h : k < m = omega (arith, measured w) in
    rw (uses-inside k m b h) (not-blocked (inside h w) b s)
not-blocked {k} {d} {xs} w (joins l r) (s, t) =
    apart (blocked d (plain xs l)) (blocked d (plain xs r))
    ∙ ap₂ ◌&&◌ (not-blocked w l s) (not-blocked w r t)
    ∙ absent_parts k l r

-- AT THE BINDER: there is a place just if it may go
may_go-joins : (k : ℕ) (l a : Named) → may_go k (joins l a) ≡ (ends_in k (joins l a) && absent k l)
may_go-joins k l (bound m) =
    elim (ℕ_discrete m k) [
      | yes e ↦ rw (e, eq-eqb k k refl, lone-applied k l) (and-true (absent k l))
      | no e ↦ rw (ne_eqb m k e) (and-false (lone k (joins l (bound m))))
    ]
may_go-joins k l (loose j) = and-false (lone k (joins l (loose j)))
may_go-joins k l (binds m b) = and-false (lone k (joins l (binds m b)))
may_go-joins k l (joins m r) = and-false (lone k (joins l (joins m r)))

module _ (k : ℕ) (around : List ℕ) (low : top around ≤ k) where
  ends-plain : (l a : Named) → is_one (plain (k ∷ around) a) ≡ ends_in k (joins l a)
  unfolding plain place
  ends-plain l (bound m) =
      elim (ℕ_discrete m k) [
        | yes e ↦ rw (eq-eqb m k e)
        | no e ↦ rw (ne_eqb m k e) (ne_eqb (suc (place m around)) 1 (λ f. omega (arith, place_positive m around)))
      ]
  ends-plain l (loose j) =
      of_loose (λ t. is_one t ≡ false) (k ∷ around) j (λ e. refl)
      (λ h. ne_eqb (j + suc (length around)) 1 (λ f. omega arith))
  ends-plain l (binds m b) = refl
  ends-plain l (joins m r) = refl

  pub no_step : (b : Named) → Scoped (k ∷ around) b → may_go k b ≡ false → eta_step (lam (plain (k ∷ around) b)) ≡ none
  unfolding plain Scoped
  no_step (bound m) s e = refl
  no_step (loose j) s e = of_loose (λ t. eta_body t ≡ none) (k ∷ around) j (λ e. refl) (λ h. refl)
  no_step (binds m b) s e = refl
  no_step (joins l a) (s, _) e = rw (ends-plain l a, not-blocked (here low) l s, ← may_go-joins k l a, e)

  pub step_drops : {b : Named} → Place k b → Scoped (k ∷ around) b
      → eta_step (lam (plain (k ∷ around) b)) ≡ some (plain around (applied b))
  unfolding plain place Scoped
  step_drops (applies {l = l} u z) (s, _) =
      rw (eq-eqb k k refl, not-blocked (here low) l s, u, z) (ap some (lower-plain (here low) l s u))

  pub scoped_drops : {b : Named} → Place k b → Scoped (k ∷ around) b → Scoped around (applied b)
  unfolding Scoped
  scoped_drops (applies {l = l} u z) (s, _) = scoped_without (here low) l s u

  -- the places that are left in what it applies
  pub places-drop : {b : Named} → Place k b → Scoped (k ∷ around) b
      → has_place (plain around (applied b)) ≡ has_place (plain (k ∷ around) b)
  unfolding plain Scoped has_place
  places-drop (applies {l = l} u z) (s, _) =
      let X = plain (k ∷ around) l in
      rw (← lower-plain (here low) l s u) (place-lower 0 X ∙ sym (or-false (has_place X)))
