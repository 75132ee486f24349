-- `substitution::raise` meets its contract: at each kind it is a law of `Raised`. The node number falls at each call.
use native.Mathlib.Omega.{arith}
use Rattle.substitution.proofs.Raised.{at_shared, at_bound, variable_asks, at_variable}
use Rattle.substitution.proofs.Raised.{body_asks, abstraction_asks, at_abstraction}
use Rattle.substitution.proofs.Raised.{left_asks, right_asks, application_asks, at_application}
use Rattle.substitution.proofs.+raise.Goals as goal

pub returns-then-free_of-depth : goal.returns-then-free_of-depth
returns-then-free_of-depth t c =
    at_shared c.requires (omega arith)

pub returns-then-index-depth : goal.returns-then-index-depth
returns-then-index-depth t c =
    at_bound c.requires c.node_at.ensures c.in-Variable.is c.if-index-depth.true

pub overflow_add-index : goal.overflow_add-index
overflow_add-index t c =
    let (fits, _) = variable_asks c.requires c.node_at.ensures c.in-Variable.is
    c.if-index-depth.false in
    omega arith

pub make_variable-requires : goal.make_variable-requires
make_variable-requires t c =
    (variable_asks c.requires c.node_at.ensures c.in-Variable.is c.if-index-depth.false).1

pub returns-else-index-depth : goal.returns-else-index-depth
returns-else-index-depth t c =
    let (next, same, new) = c.make_variable.ensures in
    at_variable c.requires c.node_at.ensures c.in-Variable.is c.if-index-depth.false next same
    new

pub raise-body-requires : goal.raise-body-requires
raise-body-requires t c =
    let (falls, asks) = body_asks c.requires c.node_at.ensures c.in-Abstraction.is in
    (omega arith, asks)

pub put-requires : goal.put-requires
put-requires t c =
    abstraction_asks c.requires c.node_at.ensures c.in-Abstraction.is c.raise-body.ensures

pub returns-in-Abstraction : goal.returns-in-Abstraction
returns-in-Abstraction t c =
    at_abstraction c.requires c.node_at.ensures c.in-Abstraction.is c.raise-body.ensures
    c.lift.ensures c.put.ensures

pub raise-left-requires : goal.raise-left-requires
raise-left-requires t c =
    let (falls, asks) = left_asks c.requires c.node_at.ensures c.in-Application.is in
    (omega arith, asks)

pub raise-right-requires : goal.raise-right-requires
raise-right-requires t c =
    let (falls, asks) = right_asks c.requires c.node_at.ensures c.in-Application.is c.raise-left.ensures in
    (omega arith, asks)

pub pair-requires : goal.pair-requires
pair-requires t c =
    let (l, r, low, _) = application_asks c.requires c.node_at.ensures c.in-Application.is c.raise-left.ensures
    c.raise-right.ensures in
    (omega arith, omega arith)

pub put-requires-in-Application : goal.put-requires-in-Application
put-requires-in-Application t c =
    (application_asks c.requires c.node_at.ensures c.in-Application.is c.raise-left.ensures
    c.raise-right.ensures).3

pub returns-in-Application : goal.returns-in-Application
returns-in-Application t c =
    at_application c.requires c.node_at.ensures c.in-Application.is c.raise-left.ensures
    c.raise-right.ensures c.lift-in-Application.ensures c.pair.ensures c.put-in-Application.ensures
