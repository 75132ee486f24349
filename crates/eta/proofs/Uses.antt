-- What is named in a term, what stays named when a binder goes, and which binder may go.
use Prim.Native.Nat.{ℕ, ◌+◌, ◌≤◌}
use mathlib.Core.Path.{◌≡◌, refl, sym, ap₂, ◌∙◌}
use mathlib.Core.Bool.{Bool, true, false, not, ◌&&◌, ◌||◌, or-false, false≢true}
use native.Mathlib.Omega.{arith}
use native.Mathlib.Decide.{ℕ_discrete}
use borrow.Author.Tests.{eq-eqb, ne_eqb, eqb-true, not-true}
use lib.Dec.{eqb}
use Rattle.calculus.proofs.Tests.{both}
use Rattle.eta.specs.Named.{Named, bound, loose, binds, joins, rise, weight, uses, has_zero, lone}
use Rattle.eta.specs.Shrinking.{ends_in, applied}

-- neither the binder nor index 0 is in it
abbrev pub absent : ℕ → Named → Bool
absent k l = eqb (uses k l) 0 && not (has_zero l)

pub lone-applied : (k : ℕ) (l : Named) → lone k (joins l (bound k)) ≡ absent k l
unfolding uses has_zero
lone-applied k l =
    rw (or-false (has_zero l), eq-eqb k k refl)
    (elim (ℕ_discrete (uses k l) 0) [
      | yes e ↦ rw (eq-eqb (uses k l) 0 e, eq-eqb (uses k l + 1) 1 (omega arith))
      | no e ↦ rw (ne_eqb (uses k l) 0 e, ne_eqb (uses k l + 1) 1 (λ f. e (omega arith)))
    ])

-- A BINDER MAY GO: \(M k), where neither k nor index 0 is in M
abbrev pub may_go : ℕ → Named → Bool
may_go k b = lone k b && ends_in k b

pub data Place (k : ℕ) : Named → Type 0 where
  applies : {l : Named} → uses k l ≡ 0 → has_zero l ≡ false → Place k (joins l (bound k))

pub as_place : (k : ℕ) (b : Named) → may_go k b ≡ true → Place k b
as_place k b e = let (alone, ends) = both (lone k b) (ends_in k b) e in by_end b alone ends
  where
    by_end : (b : Named) → lone k b ≡ true → ends_in k b ≡ true → Place k b
    by_end (bound m) a e = absurd (false≢true e)
    by_end (loose j) a e = absurd (false≢true e)
    by_end (binds m c) a e = absurd (false≢true e)
    by_end (joins l (bound m)) a e =
        let same : m ≡ k = eqb-true m k e in
        let (unused, zero_free) = both _ _ (sym (lone-applied k l) ∙ rw same at a) in
        rw same (applies (eqb-true (uses k l) 0 unused) (not-true (has_zero l) zero_free))
    by_end (joins l (loose j)) a e = absurd (false≢true e)
    by_end (joins l (binds m c)) a e = absurd (false≢true e)
    by_end (joins l (joins m r)) a e = absurd (false≢true e)

-- WHAT IS NAMED: two terms in which the same is named
pub record Alike (σ τ : Named) : Type 0 where
  pub each : (j : ℕ) → uses j σ ≡ uses j τ
  pub zero_too : has_zero σ ≡ has_zero τ

pub alike_then : {ρ σ τ : Named} → Alike ρ σ → Alike σ τ → Alike ρ τ
alike_then a b = record { each = λ j. a.each j ∙ b.each j; zero_too = a.zero_too ∙ b.zero_too }

pub alike_same : (τ : Named) → Alike τ τ
alike_same τ = record { each = λ j. refl; zero_too = refl }

pub alike_binds : (k : ℕ) {σ τ : Named} → Alike σ τ → Alike (binds k σ) (binds k τ)
unfolding uses has_zero
alike_binds k a = record { each = λ j. rw (a.each j); zero_too = a.zero_too }

pub alike_joins : {l l' r r' : Named} → Alike l l' → Alike r r' → Alike (joins l r) (joins l' r')
unfolding uses has_zero
alike_joins a b =
    record { each = λ j. ap₂ ◌+◌ (a.each j) (b.each j); zero_too = ap₂ ◌||◌ a.zero_too b.zero_too }

pub alike_lone : (k : ℕ) {σ τ : Named} → Alike σ τ → lone k σ ≡ lone k τ
unfolding uses has_zero
alike_lone k a = ap₂ (λ n z. eqb n 1 && not z) (a.each k) a.zero_too

-- a binder that goes leaves what was named
pub alike_place : {k : ℕ} {b : Named} → Place k b → Alike (applied b) (binds k b)
unfolding uses has_zero
alike_place {k} (applies {l = l} u z) =
    record {
      each = λ j.
          elim (ℕ_discrete k j) [
            | yes e ↦ rw (eq-eqb k j e, ← e) u
            | no e ↦ rw (ne_eqb k j e) (omega arith)
          ];
      zero_too = sym (or-false (has_zero l));
    }

pub lower-place : {k : ℕ} {b : Named} → Place k b → rise (applied b) ≤ rise b
unfolding rise
lower-place (applies u z) = omega arith

pub three_nodes : {k : ℕ} {b : Named} → Place k b → weight (binds k b) ≡ 3 + weight (applied b)
unfolding weight
three_nodes (applies u z) = omega arith
