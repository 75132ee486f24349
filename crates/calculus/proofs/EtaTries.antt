-- As many tries as nodes are enough for eta: more give the same run.
use Prim.Native.Nat.{ℕ, zero, suc, ◌≤◌, ◌<◌}
use mathlib.Core.Path.{◌≡◌, refl, ap, ◌∙◌}
use mathlib.Core.Bool.{Bool}
use mathlib.Core.Option.{Option, none, some}
use native.Mathlib.Omega.{arith}
use Rattle.calculus.specs.Term.{Term, var, lam, app, nodes}
use Rattle.calculus.specs.Ends.{at_root}
use Rattle.calculus.specs.Eta.{Counted, step_if, stay_or, while_possible, do_parts, eta_from}
use Rattle.calculus.proofs.Measures.{nodes_positive}
use Rattle.calculus.proofs.Lowering.{eta_smaller}
use Rattle.calculus.proofs.EtaRuns.{nodes-taken, step-allowed, while-comes, eta-comes}

module _ (more : ℕ → Bool) where
  on_fewer : (n : ℕ) (t : Term) (f g : Term → Counted) → ((u : Term) → nodes u < nodes t → f u ≡ g u)
      → (x : Option Term) → step_if (more n) t ≡ x
      → stay_or (n, t) f x ≡ stay_or (n, t) g x
  on_fewer n t f g same none e = refl
  on_fewer n t f g same (some u) e =
      let (_, k) = step-allowed more (more n) t e in
      same u (omega (arith, (eta_smaller {t = t} (at_root k)).three_nodes))

  pub while-enough : (j k n : ℕ) (t : Term) → nodes t ≤ j → nodes t ≤ k
      → while_possible more j n t ≡ while_possible more k n t
  unfolding while_possible
  while-enough zero k n t f g = absurd (omega (arith, nodes_positive t))
  while-enough (suc j) zero n t f g = absurd (omega (arith, nodes_positive t))
  while-enough (suc j) (suc k) n t f g =
      on_fewer n t (while_possible more j (suc n)) (while_possible more k (suc n))
      (λ u h. while-enough j k (suc n) u (omega arith) (omega arith)) (step_if (more n) t) refl

  -- two ways to do the parts that agree on what has fewer nodes
  same_parts : (j k : ℕ) (go go' : ℕ → Term → Counted) (n : ℕ) (t : Term) → nodes t ≤ suc j → nodes t ≤ suc k
      → ((m : ℕ) (u : Term) → nodes u < nodes t → go m u ≡ go' m u)
      → ((m : ℕ) (u : Term) → nodes u < nodes t → nodes (go' m u).1 ≤ nodes u)
      → do_parts (while_possible more (suc j)) go n t ≡ do_parts (while_possible more (suc k)) go' n t
  unfolding nodes
  same_parts j k go go' n (var i) f g same fewer = refl
  same_parts j k go go' n (lam b) f g same fewer =
      let few = fewer n b (omega arith) in
      ap (λ (c : Counted). while_possible more (suc j) c.0 (lam c.1)) (same n b (omega arith))
      ∙ while-enough (suc j) (suc k) (go' n b).0 (lam (go' n b).1) (omega arith) (omega arith)
  same_parts j k go go' n (app l r) f g same fewer =
      ap (λ (c : Counted). let d = go c.0 r in (d.0, app c.1 d.1)) (same n l (omega arith))
      ∙ ap (λ (d : Counted). (d.0, app (go' n l).1 d.1)) (same (go' n l).0 r (omega arith))

  pub eta-enough : (j k n : ℕ) (t : Term) → nodes t ≤ j → nodes t ≤ k → eta_from more j n t ≡ eta_from more k n t
  unfolding eta_from
  eta-enough zero k n t f g = absurd (omega (arith, nodes_positive t))
  eta-enough (suc j) zero n t f g = absurd (omega (arith, nodes_positive t))
  eta-enough (suc j) (suc k) n t f g =
      let c : Counted = while_possible more (suc k) n t in
      let few : nodes c.1 ≤ nodes t = nodes-taken (while-comes more (suc k) n t).way.steps in
      ap (λ (c : Counted). do_parts (while_possible more (suc j)) (eta_from more j) c.0 c.1)
      (while-enough (suc j) (suc k) n t f g)
      ∙ same_parts j k (eta_from more j) (eta_from more k) c.0 c.1 (omega arith) (omega arith)
      (λ m u h. eta-enough j k m u (omega arith) (omega arith))
      (λ m u h. nodes-taken (eta-comes more k m u (omega arith)).way.steps)
