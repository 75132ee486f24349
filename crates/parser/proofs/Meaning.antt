-- What parts stand for, as nodes are added: parts stay what they are, and items are joined to them.
use Prim.Native.Nat.{ℕ, ◌+◌, ◌≤◌, ◌<◌, max}
use mathlib.Core.Path.{◌≡◌, refl}
use mathlib.Core.List.{List}
use mathlib.Core.Option.{some}
use native.Mathlib.Omega.{arith}
use Rattle.calculus.specs.Term.{Term, var, lam, app, nodes, height}
use Rattle.calculus.specs.Bounds.{most_height}
use Rattle.calculus.proofs.Measures.{nodes_positive}
use Rattle.nodes.specs.Store.{Holds, Same}
use Rattle.nodes.proofs.Keeping.{holds_kept}
use Rattle.parser.specs.States.{State, reading, beside, under}
use Rattle.parser.specs.Building.{Means, nothing, term, empty}
use Rattle.parser.specs.declared.building.Found.{Found}
use Rattle.parser.specs.declared.building.Part.{Part}
use Rattle.parser.specs.declared.building.Part.TheVariants as part

pub height_low : (t : Term) → height t ≤ nodes t
unfolding height nodes
height_low (var i) = omega arith
height_low (lam b) = omega (arith, height_low b)
height_low (app l r) = omega (arith, height_low l, height_low r, nodes_positive l, nodes_positive r)

-- the nodes counted before stay below those counted after
pub means-grows : {xs : List ℕ} {cap base used : ℕ} {p : Part} {st : State} → Means xs cap base used p st → base ≤ used
means-grows (nothing e) = omega arith
means-grows (term h n b f) = omega arith
means-grows (empty g) = g

pub means-kept : {xs ys : List ℕ} {cap base used : ℕ} {p : Part} {st : State} → Same xs ys used
    → Means xs cap base used p st → Means ys cap base used p st
means-kept same (nothing e) = nothing e
means-kept same (term {t} {found} h n below built) =
    term h n below (λ few low. holds_kept t found.node same below (built few low))
means-kept same (empty g) = empty g

-- a term's height is a number far from the greatest
pub height-few : {xs : List ℕ} {cap base used : ℕ} {found : Found} {st : State}
    → Means xs cap base used (part.Term found) st → found.height ≤ used
height-few (term {t} h n below built) = omega (arith, height_low t)

-- a node that is counted is made where the count and the height are within the bounds
abbrev pub counted : (tall used : ℕ) → Part
counted tall used = part.Term (record { height = tall; node = used })

pub means-variable : (ys : List ℕ) (cap used index : ℕ) → (used < cap → Holds ys (var index) used)
    → Means ys cap used (used + 1) (counted 1 used) (reading (some (var index)))
unfolding nodes height
means-variable ys most used index made =
    term {found = record { height = 1; node = used }} refl refl (omega arith) (λ few low. made (omega arith))

module _ {xs ys : List ℕ} {cap used tall : ℕ} where
  pub means-abstraction : {base : ℕ} {found : Found} {st : State} → tall ≡ found.height + 1
      → (used < cap → tall ≤ most_height → (t : Term) → Holds xs t found.node → Holds ys (lam t) used)
      → Means xs cap base used (part.Term found) st → Means ys cap base (used + 1) (counted tall used) (under st)
  unfolding nodes height
  means-abstraction e make (term {t} h n below built) =
      term {t = lam t} {found = record { height = tall; node = used }} (omega arith) (omega arith) (omega arith)
      (λ few low. make (omega arith) (omega arith) t (built (omega arith) (omega arith)))

  pub means-application : {base mid : ℕ} {left right : Found} {st inner : State}
      → tall ≡ max left.height right.height + 1
      → (used < cap → tall ≤ most_height → (t u : Term) → Holds xs t left.node → Holds xs u right.node
      → Holds ys (app t u) used)
      → Means xs cap base mid (part.Term left) st → Means xs cap mid used (part.Term right) inner
      → Means ys cap base (used + 1) (counted tall used) (beside st inner)
  unfolding nodes height
  means-application e make (term {t} h n below built) (term {t = u} h' n' below' built') =
      term {t = app t u} {found = record { height = tall; node = used }} (omega arith) (omega arith) (omega arith)
      (λ few low. make (omega arith) (omega arith) t u (built (omega arith) (omega arith))
      (built' (omega arith) (omega arith)))
