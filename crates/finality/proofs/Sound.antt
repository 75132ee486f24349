-- Every step of every order is one contraction; the four full orders stop at normal forms only.
use mathlib.Core.Path.{◌≡◌, refl, sym}
use mathlib.Core.Bool.{Bool, true, false}
use mathlib.Core.List.{List, [], ◌∷◌, Memᴰ}
use mathlib.Core.Option.{Option, none, some, map, none-ne-some, map-eq-none_iff}
use Rattle.calculus.specs.Term.{Term, var, lam, app}
use Rattle.calculus.specs.Substitution.{contract}
use Rattle.finality.specs.Beta.{Beta, beta, in_lam, in_left, in_right}
use Rattle.finality.specs.Full.{Full, full_NOR, full_HNO, full_APP, full_HAP}
use Rattle.calculus.specs.Orders.{Order, Place, here, left, right, places}
use Rattle.calculus.specs.Orders.{enters}
use Rattle.calculus.specs.Orders.{or_else, when, first, redex, attempt, step}

-- what holds of a term, if there is one
pub data Holds (P : Term → Type 0) : Option Term → Type 0 where
  absent : Holds P none
  present : {t : Term} → P t → Holds P (some t)

holds-map : {P Q : Term → Type 0} (f : Term → Term) → ((t : Term) → P t → Q (f t)) → {x : Option Term} → Holds P x
    → Holds Q (map f x)
holds-map f keep absent = absent
holds-map f keep (present {t} h) = present (keep t h)

holds_or : {P : Term → Type 0} {x y : Option Term} → Holds P x → Holds P y → Holds P (or_else x y)
holds_or absent g = g
holds_or (present h) g = present h

holds-when : {P : Term → Type 0} (b : Bool) {x : Option Term} → Holds P x → Holds P (when b x)
holds-when true h = h
holds-when false h = absent

holds-first : {P : Term → Type 0} {try : Place → Option Term} → ((p : Place) → Holds P (try p)) → (ps : List Place)
    → Holds P (first try ps)
unfolding first
holds-first h [] = absent
holds-first h (p ∷ ps) = holds_or (h p) (holds-first h ps)

attempt-beta : (l r : Term) {in_l in_r : Order → Option Term}
    → ((o : Order) → Holds (Beta l) (in_l o)) → ((o : Order) → Holds (Beta r) (in_r o))
    → (p : Place) → Holds (Beta (app l r)) (attempt l r in_l in_r p)
unfolding attempt
attempt-beta (var i) r h g here = absent
attempt-beta (lam b) r h g here = present beta
attempt-beta (app l m) r h g here = absent
attempt-beta l r h g (left o) = holds-map (λ m. app m r) (λ _ s. in_left s) (h o)
attempt-beta l r h g (right o) = holds-map (app l) (λ _ s. in_right s) (g o)

-- the next step of any order is one contraction
step-beta : (o : Order) (t : Term) → Holds (Beta t) (step o t)
unfolding step
step-beta o (var i) = absent
step-beta o (lam b) = holds-when (enters o) (holds-map lam (λ _ s. in_lam s) (step-beta o b))
step-beta o (app l r) = holds-first (attempt-beta l r (λ p. step-beta p l) (λ p. step-beta p r)) (places o)

held : {P : Term → Type 0} {t : Term} → Holds P (some t) → P t
held (present h) = h

pub step-is-beta : (o : Order) {t u : Term} → step o t ≡ some u → Beta t u
step-is-beta o {t} e = held (rw e at (step-beta o t))

-- a full order looks at every place
record Everywhere (o : Order) : Type 0 where
  body : enters o ≡ true
  root : Memᴰ here (places o)
  fst : Memᴰ (left o) (places o)
  snd : Memᴰ (right o) (places o)

ruleset member = (Memᴰ.head, Memᴰ.tail)

everywhere : {o : Order} → Full o → Everywhere o
unfolding enters places
everywhere full_NOR = search member
everywhere full_HNO = search member
everywhere full_APP = search member
everywhere full_HAP = search member

neither : (x y : Option Term) → or_else x y ≡ none → (x ≡ none) × (y ≡ none)
neither none y e = (refl, e)
neither (some t) y e = absurd (none-ne-some t (sym e))

-- where no place has a step, none of them has
none_tried : (try : Place → Option Term) {p : Place} {ps : List Place} → first try ps ≡ none → Memᴰ p ps
    → try p ≡ none
unfolding first
none_tried try {ps = []} e h = elim h [ ]
none_tried try {ps = q ∷ ps} e (Memᴰ.head h) = rw h (neither (try q) (first try ps) e).0
none_tried try {ps = q ∷ ps} e (Memᴰ.tail m) = none_tried try (neither (try q) (first try ps) e).1 m

module _ {o : Order} (f : Full o) where
  stuck-body : (b : Term) → step o (lam b) ≡ none → step o b ≡ none
  unfolding step
  stuck-body b e = (map-eq-none_iff lam (step o b)).0 (rw (everywhere f).body at e)

  stuck_root : (l r : Term) → step o (app l r) ≡ none → redex l r ≡ none
  unfolding step
  stuck_root l r e = none_tried _ e (everywhere f).root

  stuck-left : (l r : Term) → step o (app l r) ≡ none → step o l ≡ none
  unfolding step
  stuck-left l r e = (map-eq-none_iff _ (step o l)).0 (none_tried _ e (everywhere f).fst)

  stuck-right : (l r : Term) → step o (app l r) ≡ none → step o r ≡ none
  unfolding step
  stuck-right l r e = (map-eq-none_iff _ (step o r)).0 (none_tried _ e (everywhere f).snd)

  -- where a full order has no step left, there is no redex
  pub stuck-normal : {t u : Term} → Beta t u → step o t ≡ none → ⊥
  unfolding redex
  stuck-normal (beta {b} {a}) e = none-ne-some (contract b a) (sym (stuck_root (lam b) a e))
  stuck-normal (in_lam {b} s) e = stuck-normal s (stuck-body b e)
  stuck-normal (in_left {l} {r} s) e = stuck-normal s (stuck-left l r e)
  stuck-normal (in_right {l} {r} s) e = stuck-normal s (stuck-right l r e)
