-- Where the next step of a term lies, told by the traits of its order: one view for all seven orders.
use mathlib.Core.Path.{◌≡◌, refl}
use mathlib.Core.Bool.{Bool, true, false, false≢true}
use mathlib.Core.Logic.{◌⊎◌, inl, inr}
use mathlib.Core.Option.{Option, none, some, map}
use Rattle.calculus.specs.Term.{Term, var, lam, app}
use Rattle.calculus.specs.Substitution.{contract}
use Rattle.calculus.specs.Orders.{Order, CBN, HSP, CBV, APP, NOR, HNO, HAP, enters}
use Rattle.calculus.specs.Traits.{spine, eager, hybrid, late, NotLam, var_not_lam, app_not_lam}
use Rattle.calculus.specs.Orders.{or_else, when, redex, step}

-- no step, where one is looked for
abbrev pub Unless : Bool → Option Term → Type 0
Unless b x = b ≡ true → x ≡ none

abbrev pub Stuck : Order → Term → Type 0
Stuck o t = step o t ≡ none

abbrev pub Goes : Order → Term → Term → Type 0
Goes o t u = step o t ≡ some u

-- where the next step of L R lies, and what was tried before
pub data Next (o : Order) (l r : Term) : Option Term → Type 0 where
  at_spine : {m : Term} → step (spine o) l ≡ some m → Next o l r (some (app m r))
  at_early : {s : Term} → Stuck (spine o) l → eager o ≡ true → step o r ≡ some s → Next o l r (some (app l s))
  at_here : {b : Term} → Stuck (spine o) l → Unless (eager o) (step o r) → l ≡ lam b
      → Next o l r (some (contract b r))
  at_left : {m : Term} → Stuck (spine o) l → Unless (eager o) (step o r) → NotLam l → hybrid o ≡ true
      → step o l ≡ some m → Next o l r (some (app m r))
  at_late : {s : Term} → Stuck (spine o) l → Unless (eager o) (step o r) → NotLam l → Unless (hybrid o) (step o l)
      → late o ≡ true → step o r ≡ some s → Next o l r (some (app l s))
  nowhere : Stuck (spine o) l → Unless (eager o) (step o r) → NotLam l → Unless (hybrid o) (step o l)
      → Unless (late o) (step o r) → Next o l r none

-- the first of five places that has a step, three of which count only by a trait
abbrev by_traits : Bool → Bool → Bool → Term → Term → Option Term → Option Term → Option Term → Option Term
by_traits eager hybrid late l r spine_l step_r step_l =
    or_else (map (λ m. app m r) spine_l)
    (or_else (when eager (map (app l) step_r))
    (or_else (redex l r)
    (or_else (when hybrid (map (λ m. app m r) step_l))
    (or_else (when late (map (app l) step_r)) none))))

step_by_traits : (o : Order) (l r : Term)
    → step o (app l r) ≡ by_traits (eager o) (hybrid o) (late o) l r (step (spine o) l) (step o r) (step o l)
unfolding step
step_by_traits CBN l r = refl
step_by_traits HSP l r = refl
step_by_traits CBV l r = refl
step_by_traits APP l r = refl
step_by_traits NOR l r = refl
step_by_traits HNO l r = refl
step_by_traits HAP l r = refl

skip : (b : Bool) (f : Term → Term) (x rest : Option Term) → Unless b x
    → or_else (when b (map f x)) rest ≡ rest
skip true f x rest h = rw (h refl)
skip false f x rest h = refl

no-redex : {l : Term} (r : Term) → NotLam l → redex l r ≡ none
unfolding redex
no-redex r var_not_lam = refl
no-redex r app_not_lam = refl

-- steps of L R, from where they lie
pub next-step : (o : Order) {l r : Term} {x : Option Term} → Next o l r x → step o (app l r) ≡ x
unfolding redex
next-step o {l} {r} (at_spine e) = rw (step_by_traits o l r, e)
next-step o {l} {r} (at_early h p e) = rw (step_by_traits o l r, h, p, e)
next-step o {l} {r} (at_here h u e) = rw (step_by_traits o l r, h) (simp (skip, e))
next-step o {l} {r} (at_left h u n p e) = rw (step_by_traits o l r, h) (simp (skip, no-redex, p, e))
next-step o {l} {r} (at_late h u n v p e) = rw (step_by_traits o l r, h) (simp (skip, no-redex) (rw (p, e)))
next-step o {l} {r} (nowhere h u n v w) = rw (step_by_traits o l r, h) (simp (skip, no-redex))

-- a step is looked for and found, or it is not
looked : (b : Bool) (x : Option Term) → ((b ≡ true) × (t : Term) × (x ≡ some t)) ⊎ Unless b x
looked true none = inr (λ _. refl)
looked true (some t) = inl (refl, t, refl)
looked false x = inr (λ e. absurd (false≢true e))

pub shape : (t : Term) → ((b : Term) × (t ≡ lam b)) ⊎ NotLam t
shape (var i) = inr var_not_lam
shape (lam b) = inl (b, refl)
shape (app l r) = inr app_not_lam

look : (o : Order) (l r : Term) → (x : Option Term) × Next o l r x
look o l r =
    elim (looked true (step (spine o) l)) [
      | inl f ↦ (some (app f.1 r), at_spine f.2)
      | inr g ↦ let h = g refl in
          elim (looked (eager o) (step o r)) [
            | inl f ↦ (some (app l f.1), at_early h f.0 f.2)
            | inr u ↦
                elim (shape l) [
                  | inl f ↦ (some (contract f.0 r), at_here h u f.1)
                  | inr n ↦
                      elim (looked (hybrid o) (step o l)) [
                        | inl f ↦ (some (app f.1 r), at_left h u n f.0 f.2)
                        | inr v ↦
                            elim (looked (late o) (step o r)) [
                              | inl f ↦ (some (app l f.1), at_late h u n v f.0 f.2)
                              | inr w ↦
                                  (none, nowhere h u n v w)
                            ]
                      ]
                ]
          ]
    ]

-- the next step of L R lies somewhere
pub step-next : (o : Order) (l r : Term) → Next o l r (step o (app l r))
step-next o l r = let (x, n) = look o l r in rw (next-step o n) n

-- the next step of an abstraction lies in its body, if the order enters that
pub data NextBody (o : Order) (b : Term) : Option Term → Type 0 where
  at_body : {c : Term} → enters o ≡ true → step o b ≡ some c → NextBody o b (some (lam c))
  no_body : Unless (enters o) (step o b) → NextBody o b none

pub next-body : (o : Order) {b : Term} {x : Option Term} → NextBody o b x → step o (lam b) ≡ x
unfolding step
next-body o (at_body p e) = rw (p, e)
next-body o {b} (no_body u) = skipped (enters o) (step o b) u
  where
    skipped : (e : Bool) (x : Option Term) → Unless e x → when e (map lam x) ≡ none
    skipped true x h = rw (h refl)
    skipped false x h = refl

look_body : (o : Order) (b : Term) → (x : Option Term) × NextBody o b x
look_body o b =
    elim (looked (enters o) (step o b)) [
      | inl f ↦ (some (lam f.1), at_body f.0 f.2)
      | inr u ↦ (none, no_body u)
    ]

pub body-next : (o : Order) (b : Term) → NextBody o b (step o (lam b))
body-next o b = let (x, n) = look_body o b in rw (next-body o n) n
