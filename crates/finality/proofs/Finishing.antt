-- A value by Sestoft's rules is reached by steps, and has no step left.
use mathlib.Core.Path.{◌≡◌, refl}
use mathlib.Core.Bool.{Bool, true, false}
use mathlib.Core.Logic.{◌⊎◌, inl, inr}
use Rattle.calculus.specs.Term.{Term, lam, app}
use Rattle.finality.specs.Beta.{Many, done, next}
use Rattle.finality.proofs.Reductions.{many_trans, many-map}
use Rattle.calculus.specs.Orders.{Order, step}
use Rattle.calculus.specs.Traits.{spine, eager, hybrid, late, NotLam}
use Rattle.finality.specs.Sestoft.{Big, big_var, big_whole, big_body, big_name, big_value, big_head, big_pair}
use Rattle.finality.specs.Sestoft.{big_hybrid}
use Rattle.calculus.proofs.NextStep.{Unless, Stuck, Goes}
use Rattle.calculus.proofs.NextStep.{at_spine, at_early, at_here, at_left, at_late, nowhere, next-step}
use Rattle.calculus.proofs.NextStep.{at_body, no_body, next-body}
use Rattle.calculus.proofs.Spines.{unless, stuck-var, keeps, plain-late, late_lazy, hybrid-late}

pub true-or_false : (b : Bool) → (b ≡ true) ⊎ (b ≡ false)
true-or_false true = inl refl
true-or_false false = inr refl

module _ (o : Order) where
  reach_spine : {l m : Term} (r : Term) → Many (Goes (spine o)) l m → Many (Goes o) (app l r) (app m r)
  reach_spine r = many-map (λ l. app l r) (λ _ _ e. next-step o (at_spine e))

  reach_early : {l r s : Term} → Stuck (spine o) l → eager o ≡ true → Many (Goes o) r s
      → Many (Goes o) (app l r) (app l s)
  reach_early {l} h p = many-map (app l) (λ _ _ e. next-step o (at_early h p e))

  reach_left : {l m r : Term} → Stuck (spine o) l → Unless (eager o) (step o r) → NotLam l → hybrid o ≡ true
      → Many (Goes o) l m
      → Many (Goes o) (app l r) (app m r) × Stuck (spine o) m × NotLam m
  reach_left h u n p done = (done, h, n)
  reach_left {l} h u n p (next {u = k} e s) =
      let (g, j) = keeps o l k h e in
      let (a, b, c) = reach_left g u (j n) p s in
      (next (next-step o (at_left h u n p e)) a, b, c)

  pub reach_late : {l r s : Term} → Stuck (spine o) l → NotLam l → Stuck o l → late o ≡ true → Many (Goes o) r s
      → Many (Goes o) (app l r) (app l s)
  reach_late {l} h n k p = many-map (app l) (λ _ _ e. next-step o (at_late h (unless (late_lazy o p)) n (λ _. k) p e))

-- a value by Sestoft's rules is reached by steps, and has no step left
pub big-finishes : {o : Order} {t u : Term} → Big o t u → Many (Goes o) t u × Stuck o u
big-finishes {o} (big_var {i}) = (done, stuck-var o i)
big-finishes {o} (big_whole p) = (done, next-body o (no_body (unless p)))
big-finishes {o} (big_body p b) =
    let (s, k) = big-finishes b in
    (many-map lam (λ _ _ e. next-body o (at_body p e)) s, next-body o (no_body (λ _. k)))
big-finishes {o} (big_name {r} p f b) =
    let (s, k) = big-finishes f in
    let (z, j) = big-finishes b in
    (many_trans (reach_spine o r s) (next (next-step o (at_here k (unless p) refl)) z), j)
big-finishes {o} (big_value {r} p f a b) =
    let (s, k) = big-finishes f in
    let (y, i) = big-finishes a in
    let (z, j) = big-finishes b in
    let contracts = next (next-step o (at_here k (λ _. i) refl)) z in
    (many_trans (reach_spine o r s) (many_trans (reach_early o k p y) contracts), j)
big-finishes {o} (big_head {r} p q f n) =
    let (s, k) = big-finishes f in
    (reach_spine o r s, next-step o (nowhere k (unless q) n (unless p) (unless (plain-late o p))))
big-finishes {o} (big_pair {r} p q f n a) =
    let (s, k) = big-finishes f in
    let (y, i) = big-finishes a in
    (many_trans (reach_spine o r s) (reach_early o k q y), next-step o (nowhere k (λ _. i) n (unless p) (λ _. i)))
big-finishes {o} (big_hybrid {r} p f n g a) =
    let (s, k) = big-finishes f in
    let (x, h) = big-finishes g in
    let (y, i) = big-finishes a in
    elim (true-or_false (eager o)) [
      | inl q ↦
          let (z, j, d) = reach_left o k (λ _. i) n p x in
          let stops = next-step o (nowhere j (λ _. i) d (λ _. h) (λ _. i)) in
          (many_trans (reach_spine o r s) (many_trans (reach_early o k q y) z), stops)
      | inr q ↦
          let (z, j, d) = reach_left o {r = r} k (unless q) n p x in
          let stops = next-step o (nowhere j (λ _. i) d (λ _. h) (λ _. i)) in
          (many_trans (reach_spine o r s) (many_trans z (reach_late o j d h (hybrid-late o p q) y)), stops)
    ]
