-- The seven orders as a table, and the next step of a term, which reads it.
use Rattle.std.specs.Prelude.{Bool, true, false, List, [], ◌∷◌}
use Rattle.std.proofs.Math.Option.{Option, none, some, map}
use Rattle.calculus.specs.Term.{Term, var, lam, app}
use Rattle.calculus.specs.Substitution.{contract}

pub data Order : Type 0 where
  CBN HSP CBV APP NOR HNO HAP : Order

-- a place in L R where a step may be: here, which means that L is an abstraction; or in a part, by some order
pub data Place : Type 0 where
  here : Place
  left right : Order → Place

-- THE TABLE: the places of L R, in the sequence in which they are tried
unfoldable pub places : Order → List Place
places CBN = left CBN ∷ here ∷ []
places HSP = left HSP ∷ here ∷ []
places CBV = left CBV ∷ right CBV ∷ here ∷ []
places APP = left APP ∷ right APP ∷ here ∷ []
places NOR = left CBN ∷ here ∷ left NOR ∷ right NOR ∷ []
places HNO = left HSP ∷ here ∷ left HNO ∷ right HNO ∷ []
places HAP = left CBV ∷ right HAP ∷ here ∷ left HAP ∷ []

-- in \B: whether the same order steps in B
unfoldable pub enters : Order → Bool
enters CBN = false
enters CBV = false
enters HSP = true
enters APP = true
enters NOR = true
enters HNO = true
enters HAP = true

abbrev pub or_else : Option Term → Option Term → Option Term
or_else none u = u
or_else (some t) u = some t

abbrev pub when : Bool → Option Term → Option Term
when true t = t
when false t = none

-- the step at the first place that has one
unfoldable pub first : (Place → Option Term) → List Place → Option Term
first try [] = none
first try (p ∷ ps) = or_else (try p) (first try ps)

-- L R contracted, if L is an abstraction
unfoldable pub redex : Term → Term → Option Term
redex (var i) r = none
redex (lam b) r = some (contract b r)
redex (app l m) r = none

-- the step of L R at a place, by the steps of L and those of R
unfoldable pub attempt : Term → Term → (Order → Option Term) → (Order → Option Term) → Place → Option Term
unfolding redex
attempt l r in_l in_r here = redex l r
attempt l r in_l in_r (left o) = map (λ m. app m r) (in_l o)
attempt l r in_l in_r (right o) = map (app l) (in_r o)

-- THE NEXT STEP of a term, if one is left
unfoldable pub step : Order → Term → Option Term
unfolding enters first attempt places
step o (var i) = none
step o (lam b) = when (enters o) (map lam (step o b))
step o (app l r) = first (attempt l r (λ p. step p l) (λ p. step p r)) (places o)
