-- `substitution::weighing::measure` meets its contract: at each kind it is a law of `Measuring`. The node number falls.
use native.Mathlib.Omega.{arith}
use borrow.Author.Rules.{rules}
use Rattle.substitution.proofs.Measuring.{at_shared, at_index, at_other}
use Rattle.substitution.proofs.Measuring.{body_asks, body-low, at_abstraction}
use Rattle.substitution.proofs.Measuring.{left_asks, right_asks, sums_low, at_application}
use Rattle.substitution.proofs.weighing.+measure.Goals as goal

pub returns-then-free_of-depth : goal.returns-then-free_of-depth
returns-then-free_of-depth t c =
    rw c.nowhere.ensures (at_shared c.requires (omega arith) c.height_of.ensures)

pub returns-then-index-depth : goal.returns-then-index-depth
returns-then-index-depth t c =
    at_index c.requires c.node_at.ensures c.in-Variable.is c.if-index-depth.true

pub returns-else-index-depth : goal.returns-else-index-depth
returns-else-index-depth t c =
    rw c.nowhere-in-Variable.ensures (at_other c.requires c.node_at.ensures c.in-Variable.is c.if-index-depth.false)

pub measure-body-requires : goal.measure-body-requires
measure-body-requires t c =
    let (falls, asks) = body_asks c.requires c.node_at.ensures c.in-Abstraction.is in
    (omega arith, asks)

pub overflow_add-result : goal.overflow_add-result
overflow_add-result t c =
    let low = body-low c.requires c.node_at.ensures c.in-Abstraction.is
    c.measure-body.ensures in
    search rules

pub returns-in-Abstraction : goal.returns-in-Abstraction
returns-in-Abstraction t c =
    at_abstraction c.requires c.node_at.ensures c.in-Abstraction.is
    c.measure-body.ensures

pub measure-left-requires : goal.measure-left-requires
measure-left-requires t c =
    let (falls, asks) = left_asks c.requires c.node_at.ensures c.in-Application.is in
    (omega arith, asks)

pub measure-right-requires : goal.measure-right-requires
measure-right-requires t c =
    let (falls, asks) = right_asks c.requires c.node_at.ensures c.in-Application.is in
    (omega arith, asks)

pub overflow_add-result-in-Application : goal.overflow_add-result-in-Application
overflow_add-result-in-Application t c =
    let (few, _) = sums_low c.requires c.node_at.ensures c.in-Application.is c.measure-left.ensures
    c.measure-right.ensures in
    search rules

pub overflow_add-result-in-Application-2 : goal.overflow_add-result-in-Application-2
overflow_add-result-in-Application-2 t c =
    let (_, low) = sums_low c.requires c.node_at.ensures c.in-Application.is c.measure-left.ensures
    c.measure-right.ensures in
    omega (arith, c.max-in-Application.ensures)

pub returns-in-Application : goal.returns-in-Application
returns-in-Application t c =
    at_application c.requires c.node_at.ensures c.in-Application.is c.measure-left.ensures
    c.measure-right.ensures c.max.ensures c.max-in-Application.ensures
