-- Where binders are kept: what stands at their levels gives how far out they are, and one more can be put there.
use Prim.Native.Nat.{ℕ, suc, ◌+◌, ◌≤◌, ◌<◌}
use mathlib.Core.Path.{◌≡◌, refl}
use mathlib.Core.List.{List, ◌∷◌}
use native.Mathlib.Omega.{arith}
use lib.ListN.{length, set, get_or, length-set}
use lib.Seq.{get_or-set_same, get_or-set_other}
use borrow.Author.Tests.{eq-eqb, ne_eqb}
use Rattle.eta.specs.Named.{place}
use Rattle.eta.specs.Scope.{Among, first, later, top}
use Rattle.eta.specs.Writing.{Placed}

-- a new binder is the innermost, and those around it are so many
pub placed-under : {places around : List ℕ} {depth : ℕ} (k : ℕ) → top around ≤ k → k < length places
    → length around ≡ depth → Placed places around → Placed (set places k depth) (k ∷ around)
unfolding place
placed-under {places} {around} {depth} k above inside deep now = record {
  rising = rises;
  low = omega (arith, length-set places k depth);
  placed = stands;
}
  where
    rises : (m : ℕ) → Among m (k ∷ around) → m < suc k
    rises m first = omega arith
    rises m (later h) = omega (arith, now.rising m h)

    stands : (m : ℕ) → Among m (k ∷ around)
        → get_or (set places k depth) m 0 + place m (k ∷ around) ≡ suc (length around)
    stands m first =
        rw (eq-eqb k k refl, get_or-set_same places k depth 0 inside) (omega arith)
    stands m (later h) =
        let below = now.rising m h in
        let other = get_or-set_other places k m depth 0 (λ e. omega arith) in
        rw (ne_eqb m k (λ e. omega arith), other) (omega (arith, now.placed m h))

-- what is written inside leaves the binders around where they were
pub placed-kept : {places places' around : List ℕ} → length places' ≡ length places
    → ((k : ℕ) → k < top around → get_or places' k 0 ≡ get_or places k 0) → Placed places around → Placed places' around
placed-kept as_long kept now = record {
  rising = now.rising;
  low = omega (arith, as_long, now.low);
  placed = λ k among. omega (arith, kept k (now.rising k among), now.placed k among);
}
