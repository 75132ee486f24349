-- What the traits have to do with each other, and that an order's own steps leave its spine order stopped.
use Prim.Native.Nat.{ℕ}
use mathlib.Core.Path.{◌≡◌, refl, sym, ◌∙◌}
use mathlib.Core.Bool.{Bool, true, false, false≢true}
use mathlib.Core.Option.{Option, none, some, none-ne-some}
use Rattle.calculus.specs.Term.{Term, var, lam, app}
use Rattle.calculus.specs.Orders.{Order, CBN, HSP, CBV, APP, NOR, HNO, HAP, step}
use Rattle.calculus.specs.Traits.{spine, eager, hybrid, late, NotLam, app_not_lam}
use Rattle.calculus.proofs.NextStep.{Unless, Stuck, Goes}
use Rattle.calculus.proofs.NextStep.{Next, at_spine, at_early, at_here, at_left, at_late, nowhere, next-step}
use Rattle.calculus.proofs.NextStep.{step-next}
use Rattle.calculus.proofs.NextStep.{NextBody, at_body, no_body, next-body, body-next}

spine-spine : (o : Order) → spine (spine o) ≡ spine o
spine-spine = elim [ CBN ↦ refl | HSP ↦ refl | CBV ↦ refl | APP ↦ refl | NOR ↦ refl | HNO ↦ refl | HAP ↦ refl ]

spine-plain : (o : Order) → hybrid (spine o) ≡ false
spine-plain = elim [ CBN ↦ refl | HSP ↦ refl | CBV ↦ refl | APP ↦ refl | NOR ↦ refl | HNO ↦ refl | HAP ↦ refl ]

spine-eager : (o : Order) → eager (spine o) ≡ eager o
spine-eager = elim [ CBN ↦ refl | HSP ↦ refl | CBV ↦ refl | APP ↦ refl | NOR ↦ refl | HNO ↦ refl | HAP ↦ refl ]

pub plain-late : (o : Order) → hybrid o ≡ false → late o ≡ false
plain-late =
    elim [
      | CBN ↦ λ _. refl
      | HSP ↦ λ _. refl
      | CBV ↦ λ _. refl
      | APP ↦ λ _. refl
      | NOR ↦ λ e. e
      | HNO ↦ λ e. e
      | HAP ↦ λ _. refl
    ]

pub late_lazy : (o : Order) → late o ≡ true → eager o ≡ false
late_lazy =
    elim [
      | CBN ↦ λ _. refl
      | HSP ↦ λ _. refl
      | CBV ↦ λ e. sym e
      | APP ↦ λ e. sym e
      | NOR ↦ λ _. refl
      | HNO ↦ λ _. refl
      | HAP ↦ λ e. sym e
    ]

pub hybrid-late : (o : Order) → hybrid o ≡ true → eager o ≡ false → late o ≡ true
hybrid-late =
    elim [
      | CBN ↦ λ e _. e
      | HSP ↦ λ e _. e
      | CBV ↦ λ e _. e
      | APP ↦ λ e _. e
      | NOR ↦ λ _ _. refl
      | HNO ↦ λ _ _. refl
      | HAP ↦ λ _ e. sym e
    ]

pub late-hybrid : (o : Order) → late o ≡ true → hybrid o ≡ true
late-hybrid =
    elim [ CBN ↦ λ e. e | HSP ↦ λ e. e | CBV ↦ λ e. e | APP ↦ λ e. e | NOR ↦ λ e. e | HNO ↦ λ e. e | HAP ↦ λ _. refl ]

pub unless : {b : Bool} {x : Option Term} → b ≡ false → Unless b x
unless p q = absurd (false≢true (sym p ∙ q))

pub clash : {x : Option Term} {t : Term} → x ≡ none → x ≡ some t → ⊥
clash {t} p q = none-ne-some t (sym p ∙ q)

pub stuck-var : (o : Order) (i : ℕ) → Stuck o (var i)
unfolding step
stuck-var o i = refl

pub not_lam : {b : Term} → NotLam (lam b) → ⊥
not_lam n = elim n [ ]

-- once the spine order has stopped, the order's own steps do not start it again, and make no abstraction
abbrev pub Keeps : Order → Term → Type 0
Keeps o t = (u : Term) → Stuck (spine o) t → Goes o t u → Stuck (spine o) u × (NotLam t → NotLam u)

keeps_body : {o : Order} {b : Term} {u : Term} → Keeps o b → NextBody (spine o) b none → NextBody o b (some u)
    → Stuck (spine o) u × (NotLam (lam b) → NotLam u)
keeps_body {o} ih (no_body h) (at_body {c} p e) =
    (next-body (spine o) (no_body (λ q. (ih c (h q) e).0)), λ n. absurd (not_lam n))

never_late : (o : Order) {x : Option Term} → Unless (late (spine o)) x
never_late o = unless (plain-late (spine o) (spine-plain o))

keeps_app : {o : Order} {l r u : Term} → Keeps o l → Keeps o r → Next (spine o) l r none → Next o l r (some u)
    → Stuck (spine o) u × (NotLam (app l r) → NotLam u)
keeps_app {o} ih_l ih_r (nowhere h u n v w) (at_spine e) = absurd (clash (rw spine-spine at h) e)
keeps_app {o} ih_l ih_r (nowhere h u n v w) (at_early {s} _ p e) =
    (next-step (spine o) (nowhere h (λ q. (ih_r s (u q) e).0) n v (never_late o)), λ _. app_not_lam)
keeps_app {o} ih_l ih_r (nowhere h u n v w) (at_here _ _ e) = absurd (not_lam (rw e at n))
keeps_app {o} ih_l ih_r (nowhere h u n v w) (at_left {m} g _ _ _ e) =
    let (k, j) = ih_l m g e in
    (next-step (spine o) (nowhere (rw spine-spine k) u (j n) (unless (spine-plain o)) w), λ _. app_not_lam)
keeps_app {o} ih_l ih_r (nowhere h u n v w) (at_late {s} _ _ _ _ p e) =
    (next-step (spine o) (nowhere h (λ q. (ih_r s (u q) e).0) n v (never_late o)), λ _. app_not_lam)

pub keeps : (o : Order) (t : Term) → Keeps o t
keeps o (var i) u h e = absurd (clash (stuck-var o i) e)
keeps o (lam b) u h e = keeps_body (keeps o b) (rw h at (body-next (spine o) b)) (rw e at (body-next o b))
keeps o (app l r) u h e =
    keeps_app (keeps o l) (keeps o r) (rw h at (step-next (spine o) l r)) (rw e at (step-next o l r))

-- where the spine order has stopped, it has in the function part, which is no abstraction, and if eager in the argument
pub spine-rests : (o : Order) (l r : Term) → Stuck (spine o) (app l r)
    → Stuck (spine o) l × NotLam l × Unless (eager o) (step (spine o) r)
spine-rests o l r h = parts (rw h at (step-next (spine o) l r))
  where
    parts : Next (spine o) l r none → Stuck (spine o) l × NotLam l × Unless (eager o) (step (spine o) r)
    parts (nowhere h u n v w) = (rw spine-spine at h, n, rw spine-eager at u)
