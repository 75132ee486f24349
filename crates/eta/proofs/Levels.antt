-- The names that a term is given: they mean that term again, among the binders above it.
use Prim.Native.Nat.{ℕ, zero, suc, ◌+◌, ◌-◌, ◌≤◌, ◌<◌}
use mathlib.Core.Path.{◌≡◌, refl, ap, ap₂, sym, ◌∙◌}
use mathlib.Core.List.{List, ◌∷◌}
use native.Mathlib.Omega.{arith}
use native.Mathlib.Decide.{dec_le, ℕ_discrete}
use borrow.Author.Tests.{le-leb, lt-leb, eq-eqb, ne_eqb}
use lib.ListN.{length}
use Rattle.calculus.specs.Term.{Term, var, lam, app, nodes, height, greatest_index}
use Rattle.calculus.specs.Bounds.{most_height, greatest_number}
use Rattle.calculus.proofs.Measures.{height_positive}
use Rattle.eta.specs.Named.{Named, bound, loose, binds, joins, named, place, plain, levels, rise, weight}
use Rattle.eta.specs.Scope.{Among, first, later, top, Scoped}

length-levels : (d : ℕ) → length (levels d) ≡ d
unfolding levels
length-levels zero = refl
length-levels (suc d) = ap suc (length-levels d)

top-levels : (d : ℕ) → top (levels d) ≡ d
unfolding levels
top-levels zero = refl
top-levels (suc d) = refl

-- each level below d is there, as far out as it is below d
among-levels : (d k : ℕ) → k < d → Among k (levels d)
unfolding levels
among-levels zero k h = absurd (omega arith)
among-levels (suc d) k h =
    elim (ℕ_discrete k d) [ yes e ↦ rw e first | no e ↦ later (among-levels d k (omega arith)) ]

place-levels : (d k : ℕ) → k < d → place k (levels d) ≡ d - k
unfolding levels place
place-levels zero k h = absurd (omega arith)
place-levels (suc d) k h =
    elim (ℕ_discrete k d) [
      | yes e ↦ rw (eq-eqb k d e) (omega arith)
      | no e ↦ rw (ne_eqb k d e, place-levels d k (omega arith)) (omega arith)
    ]

-- a fact about the name of a variable under d abstractions, by what kind of index it has
of_variable : (P : Named → Type 0) (d i : ℕ) → (i ≡ 0 → P (loose 0)) → (0 < i → i ≤ d → P (bound (d - i)))
    → (d < i → P (loose (i - d)))
    → P (named d (var i))
unfolding named
of_variable P d i zero_index inner free =
    elim (ℕ_discrete i 0) [
      | yes e ↦ rw (eq-eqb i 0 e) (zero_index e)
      | no e ↦
          elim (dec_le i d) [
            | yes h ↦ rw (ne_eqb i 0 e, le-leb i d h) (inner (omega arith) h)
            | no h ↦ rw (ne_eqb i 0 e, lt-leb i d (omega arith)) (free (omega arith))
          ]
    ]

-- THE TERM THAT IS MEANT
-- a fact about the variable that is meant by a free one or index 0
pub of_loose : (P : Term → Type 0) (around : List ℕ) (j : ℕ) → (j ≡ 0 → P (var 0))
    → (0 < j → P (var (j + length around)))
    → P (plain around (loose j))
unfolding plain
of_loose P around j zero_index free =
    elim (ℕ_discrete j 0) [
      | yes e ↦ rw (eq-eqb j 0 e) (zero_index e)
      | no e ↦ rw (ne_eqb j 0 e) (free (omega arith))
    ]

pub plain-named : (d : ℕ) (t : Term) → plain (levels d) (named d t) ≡ t
unfolding named plain levels
plain-named d (var i) =
    of_variable (λ τ. plain (levels d) τ ≡ var i) d i
    (λ e. rw e)
    (λ l h. rw (place-levels d (d - i) (omega arith)) (ap var (omega arith)))
    (λ h. of_loose (λ t. t ≡ var i) (levels d) (i - d)
    (λ e. absurd (omega arith))
    (λ l. ap var (omega (arith, length-levels d))))
plain-named d (lam b) = ap lam (plain-named (suc d) b)
plain-named d (app l r) = ap₂ app (plain-named d l) (plain-named d r)

-- ITS BINDERS AND FREE VARIABLES
pub scoped-named : (d : ℕ) (t : Term) → greatest_index t ≤ greatest_number → d + height t ≤ most_height
    → Scoped (levels d) (named d t)
unfolding named levels Scoped greatest_index height
scoped-named d (var i) g h =
    of_variable (Scoped (levels d)) d i
    (λ e. rw (length-levels d) (omega arith))
    (λ l k. among-levels d (d - i) (omega arith))
    (λ k. rw (length-levels d) (omega arith))
scoped-named d (lam b) g h =
    (omega (arith, top-levels d), omega (arith, height_positive b), scoped-named (suc d) b g (omega arith))
scoped-named d (app l r) g h =
    (scoped-named d l (omega arith) (omega arith), scoped-named d r (omega arith) (omega arith))

pub rise-named : (d : ℕ) (t : Term) → rise (named d t) ≤ d + height t
unfolding named rise height
rise-named d (var i) =
    of_variable (λ τ. rise τ ≤ d + 1) d i (λ e. omega arith) (λ l k. omega arith) (λ k. omega arith)
rise-named d (lam b) = omega (arith, rise-named (suc d) b)
rise-named d (app l r) = omega (arith, rise-named d l, rise-named d r)

-- NODES
pub weight-plain : (around : List ℕ) (τ : Named) → nodes (plain around τ) ≡ weight τ
unfolding plain weight nodes
weight-plain around (bound k) = refl
weight-plain around (loose j) = of_loose (λ t. nodes t ≡ 1) around j (λ e. refl) (λ h. refl)
weight-plain around (binds k b) = ap suc (weight-plain (k ∷ around) b)
weight-plain around (joins l r) = rw (weight-plain around l, weight-plain around r)

pub weight-named : (d : ℕ) (t : Term) → weight (named d t) ≡ nodes t
weight-named d t = sym (weight-plain (levels d) (named d t)) ∙ ap nodes (plain-named d t)
