-- `substitution::put_in` meets its contract: at each kind it is a law of `Placed`. The node number falls at each call.
use native.Mathlib.Omega.{arith}
use Rattle.substitution.proofs.Placed.{at_shared, at_bound, at_once, argument_asks, at_argument}
use Rattle.substitution.proofs.Placed.{variable_asks, at_variable}
use Rattle.substitution.proofs.Placed.{body_asks, abstraction_asks, at_abstraction}
use Rattle.substitution.proofs.Placed.{left_asks, right_asks, application_asks, at_application}
use Rattle.substitution.proofs.+put_in.Goals as goal

pub returns-then-free_of-depth : goal.returns-then-free_of-depth
returns-then-free_of-depth t c =
    at_shared c.requires (omega arith)

pub returns-then-index-depth : goal.returns-then-index-depth
returns-then-index-depth t c =
    at_bound c.requires c.node_at.ensures c.in-Variable.is c.if-index-depth.true

pub raise-requires : goal.raise-requires
raise-requires t c =
    argument_asks c.requires c.node_at.ensures c.in-Variable.is c.if-index-depth-2.true

pub returns-then-depth-eq0 : goal.returns-then-depth-eq0
returns-then-depth-eq0 t c =
    at_once c.requires c.node_at.ensures c.in-Variable.is c.if-index-depth-2.true c.if-depth-eq0.true

pub returns-then-index-depth-2 : goal.returns-then-index-depth-2
returns-then-index-depth-2 t c =
    at_argument c.requires c.node_at.ensures c.in-Variable.is c.if-index-depth-2.true
    c.raise.ensures

pub make_variable-requires : goal.make_variable-requires
make_variable-requires t c =
    variable_asks c.requires c.node_at.ensures c.in-Variable.is

pub returns-else-index-depth-2 : goal.returns-else-index-depth-2
returns-else-index-depth-2 t c =
    let (next, same, new) = c.make_variable.ensures in
    at_variable c.requires c.node_at.ensures c.in-Variable.is c.if-index-depth.false
    c.if-index-depth-2.false next same new

pub put_in-body-requires : goal.put_in-body-requires
put_in-body-requires t c =
    let (falls, asks) = body_asks c.requires c.node_at.ensures c.in-Abstraction.is in
    (omega arith, asks)

pub make_abstraction-requires : goal.make_abstraction-requires
make_abstraction-requires t c =
    abstraction_asks c.requires c.node_at.ensures c.in-Abstraction.is
    c.put_in-body.ensures

pub returns-in-Abstraction : goal.returns-in-Abstraction
returns-in-Abstraction t c =
    let (next, same, new) = c.make_abstraction.ensures in
    at_abstraction c.requires c.node_at.ensures c.in-Abstraction.is c.put_in-body.ensures
    next same new

pub put_in-left-requires : goal.put_in-left-requires
put_in-left-requires t c =
    let (falls, asks) = left_asks c.requires c.node_at.ensures c.in-Application.is in
    (omega arith, asks)

pub put_in-right-requires : goal.put_in-right-requires
put_in-right-requires t c =
    let (falls, asks) = right_asks c.requires c.node_at.ensures c.in-Application.is c.put_in-left.ensures in
    (omega arith, asks)

pub make_application-requires : goal.make_application-requires
make_application-requires t c =
    application_asks c.requires c.node_at.ensures c.in-Application.is c.put_in-left.ensures
    c.put_in-right.ensures

pub returns-in-Application : goal.returns-in-Application
returns-in-Application t c =
    let (next, same, new) = c.make_application.ensures in
    at_application c.requires c.node_at.ensures c.in-Application.is c.put_in-left.ensures
    c.put_in-right.ensures next same new
