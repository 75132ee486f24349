-- Which notation and which order a number names, by the case that the code finds.
use Prim.Native.Nat.{ℕ, zero, suc, ◌≤◌}
use mathlib.Core.Path.{◌≡◌, refl, sym}
use mathlib.Core.List.{List, [], ◌∷◌}
use mathlib.Core.Option.{none, some}
use native.Mathlib.Omega.{arith}
use lib.ListN.{length}
use Rattle.std.specs.Prelude.{Result, Ok, Err}
use Rattle.calculus.specs.Refusal.{outside_bounds}
use Rattle.term.specs.Answers.{refusal_of}
use Rattle.term.specs.Notations as notation
use Rattle.term.specs.declared.Notation.{Notation}
use Rattle.term.specs.declared.Notation.TheVariants.{DeBruijn, Classic}
use Rattle.term.specs.declared.Refusal.{Refusal}
use Rattle.orders.specs.Orders as order
use Rattle.orders.specs.declared.Order.{Order}
use Rattle.orders.specs.declared.Order.TheVariants.{NOR, CBN, HSP, HNO, APP, CBV, HAP}
use Rattle.copperjangle.specs.Numbers.{numbered, notations, orders}

-- the number of each case names what the case is
pub notation_numbered : (x : Notation) → numbered notations (notation.number_of x) ≡ some (notation.notation_of x)
notation_numbered DeBruijn = refl
notation_numbered Classic = refl

pub order_numbered : (x : Order) → numbered orders (order.number_of x) ≡ some (order.order_of x)
order_numbered NOR = refl
order_numbered CBN = refl
order_numbered HSP = refl
order_numbered HNO = refl
order_numbered APP = refl
order_numbered CBV = refl
order_numbered HAP = refl

-- a number that is no place of a list names nothing in it
pub names-none : {A : Type 0} (xs : List A) (n : ℕ) → length xs ≤ n → numbered xs n ≡ none
names-none [] n h = refl
names-none (x ∷ xs) zero h = absurd (omega arith)
names-none (x ∷ xs) (suc n) h = names-none xs n (omega arith)

module _ (n : ℕ) {r : Result Notation Refusal} (says : notation.Numbered n r) where
  pub notation-named : {x : Notation} → r ≡ Ok x → numbered notations n ≡ some (notation.notation_of x)
  notation-named {x} e = rw (sym (rw e at says)) (notation_numbered x)

  pub no_notation : {why : Refusal} → r ≡ Err why
      → (numbered notations n ≡ none) × (refusal_of why ≡ outside_bounds)
  no_notation e = let (is, above) = rw e at says in (names-none notations n above, rw is)

module _ (n : ℕ) {r : Result Order Refusal} (says : order.Numbered n r) where
  pub order-named : {x : Order} → r ≡ Ok x → numbered orders n ≡ some (order.order_of x)
  order-named {x} e = rw (sym (rw e at says)) (order_numbered x)

  pub no-order : {why : Refusal} → r ≡ Err why → (numbered orders n ≡ none) × (refusal_of why ≡ outside_bounds)
  no-order e = let (is, above) = rw e at says in (names-none orders n above, rw is)
