-- Which order of the definitions each case of the code's `Order` is, and its number.
use Rattle.std.specs.Prelude.{ℕ, ◌≤◌, ◌≡◌, Result, MatchResult}
use Rattle.calculus.specs.Orders as calculus
use Rattle.term.specs.declared.Refusal.{Refusal}
use Rattle.term.specs.declared.Refusal.TheVariants.{OutsideBounds}
use Rattle.orders.specs.declared.Order.{Order}
use Rattle.orders.specs.declared.Order.TheVariants.{NOR, CBN, HSP, HNO, APP, CBV, HAP}

abbrev pub order_of : Order → calculus.Order
order_of NOR = calculus.NOR
order_of CBN = calculus.CBN
order_of HSP = calculus.HSP
order_of HNO = calculus.HNO
order_of APP = calculus.APP
order_of CBV = calculus.CBV
order_of HAP = calculus.HAP

abbrev pub number_of : Order → ℕ
number_of NOR = 0
number_of CBN = 1
number_of HSP = 2
number_of HNO = 3
number_of APP = 4
number_of CBV = 5
number_of HAP = 6

-- the order that has this number, or refusal 1 of a number that none has
abbrev pub Numbered : ℕ → Result Order Refusal → Type 0
Numbered n r = MatchResult r (λ order. number_of order ≡ n) (λ why. (why ≡ OutsideBounds) × (7 ≤ n))
