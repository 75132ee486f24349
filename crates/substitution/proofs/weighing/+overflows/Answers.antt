-- `substitution::weighing::overflows` meets its contract: at each kind a law of `Overflowing`. The node number falls.
use native.Mathlib.Omega.{arith}
use borrow.Author.Tests.{le-ltb}
use Rattle.substitution.proofs.Overflowing.{at_known, at_bound, at_free, body_asks, at_abstraction}
use Rattle.substitution.proofs.Overflowing.{left_asks, at_left, right_asks, at_right}
use Rattle.substitution.proofs.weighing.+overflows.Goals as goal

pub returns-then-free_of-lt-UNKNOWN : goal.returns-then-free_of-lt-UNKNOWN
returns-then-free_of-lt-UNKNOWN t c =
    at_known c.requires (omega arith)

pub overflows-requires : goal.overflows-requires
overflows-requires t c =
    let (falls, asks) = body_asks c.requires c.node_at.ensures c.in-Abstraction.is in
    (omega arith, asks)

pub returns-in-Abstraction : goal.returns-in-Abstraction
returns-in-Abstraction t c =
    at_abstraction c.requires c.node_at.ensures c.in-Abstraction.is c.overflows.ensures

pub overflows-requires-in-Application : goal.overflows-requires-in-Application
overflows-requires-in-Application t c =
    let (falls, asks) = left_asks c.requires c.node_at.ensures c.in-Application.is in
    (omega arith, asks)

pub returns-then-depth-index : goal.returns-then-depth-index
returns-then-depth-index t c =
    at_free c.requires c.node_at.ensures c.in-Variable.is c.if-depth-index.true

pub returns-else-depth-index : goal.returns-else-depth-index
returns-else-depth-index t c =
    rw (le-ltb _ _ c.if-depth-index.false)
    (at_bound c.requires c.node_at.ensures c.in-Variable.is c.if-depth-index.false)

pub overflows-requires-else-overflows : goal.overflows-requires-else-overflows
overflows-requires-else-overflows t c =
    let (falls, asks) = right_asks c.requires c.node_at.ensures c.in-Application.is in
    (omega arith, asks)

pub returns-then-overflows : goal.returns-then-overflows
returns-then-overflows t c =
    let left = rw c.if-overflows.true at c.overflows-in-Application.ensures in
    rw c.if-overflows.true (at_left c.requires c.node_at.ensures c.in-Application.is left)

pub returns-else-overflows : goal.returns-else-overflows
returns-else-overflows t c =
    let left = rw c.if-overflows.false at c.overflows-in-Application.ensures in
    at_right c.requires c.node_at.ensures c.in-Application.is left c.overflows-else-overflows.ensures
