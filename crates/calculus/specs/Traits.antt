-- The seven orders by four traits: what Sestoft's rules and an engine for all orders go by.
use Rattle.std.specs.Prelude.{ℕ, Bool, true, false}
use Rattle.calculus.specs.Term.{Term, var, app}
use Rattle.calculus.specs.Orders.{Order, CBN, HSP, CBV, APP, NOR, HNO, HAP}

-- the order by which the function part is reduced first
abbrev pub spine : Order → Order
spine CBN = CBN
spine HSP = HSP
spine CBV = CBV
spine APP = APP
spine NOR = CBN
spine HNO = HSP
spine HAP = CBV

-- whether the argument is reduced before it is put
abbrev pub eager : Order → Bool
eager CBN = false
eager HSP = false
eager CBV = true
eager APP = true
eager NOR = false
eager HNO = false
eager HAP = true

-- whether a function part that is no abstraction is reduced further, by the order itself
abbrev pub hybrid : Order → Bool
hybrid CBN = false
hybrid HSP = false
hybrid CBV = false
hybrid APP = false
hybrid NOR = true
hybrid HNO = true
hybrid HAP = true

-- whether the argument of a function part that is no abstraction is reduced last
abbrev pub late : Order → Bool
late CBN = false
late HSP = false
late CBV = false
late APP = false
late NOR = true
late HNO = true
late HAP = false

-- no abstraction
pub data NotLam : Term → Type 0 where
  var_not_lam : {i : ℕ} → NotLam (var i)
  app_not_lam : {l r : Term} → NotLam (app l r)
