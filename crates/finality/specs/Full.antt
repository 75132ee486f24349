-- The orders that reduce to normal forms; no two of them finish one input with different terms.
use Rattle.calculus.specs.Orders.{Order, APP, NOR, HNO, HAP}

pub data Full : Order → Type 0 where
  full_NOR : Full NOR
  full_HNO : Full HNO
  full_APP : Full APP
  full_HAP : Full HAP
