-- `nodes::save` meets its contract: at each kind it is a law of `Saving`. The number of the node falls at each call.
use native.Mathlib.Omega.{arith}
use lib.ListN.{length-set}
use borrow.Author.Rules.{rules}
use Rattle.nodes.proofs.Saving.{variable_asks, at_variable}
use Rattle.nodes.proofs.Saving.{abstraction_asks, body_below, at_abstraction}
use Rattle.nodes.proofs.Saving.{application_asks, left_below, right_below, left_asks, at_application}
use Rattle.nodes.proofs.+save.Goals as goal

pub bounds-out-to : goal.bounds-out-to
bounds-out-to t c =
    omega (arith, variable_asks c.loop-index.invariant c.requires c.node_at.ensures c.in-Variable.is)

pub overflow_add-to : goal.overflow_add-to
overflow_add-to t c =
    let places = variable_asks c.loop-index.invariant c.requires c.node_at.ensures c.in-Variable.is in search rules

pub put_index-requires : goal.put_index-requires
put_index-requires t c =
    rw length-set
    (omega (arith, variable_asks c.loop-index.invariant c.requires c.node_at.ensures c.in-Variable.is))

pub returns-in-Variable : goal.returns-in-Variable
returns-in-Variable t c =
    at_variable c.loop-index.invariant c.requires c.node_at.ensures c.in-Variable.is c.put_index.ensures

pub bounds-out-to-in-Abstraction : goal.bounds-out-to-in-Abstraction
bounds-out-to-in-Abstraction t c =
    omega (arith, abstraction_asks c.loop-index.invariant c.requires c.node_at.ensures c.in-Abstraction.is)

pub overflow_add-to-in-Abstraction : goal.overflow_add-to-in-Abstraction
overflow_add-to-in-Abstraction t c =
    let places = abstraction_asks c.loop-index.invariant c.requires c.node_at.ensures c.in-Abstraction.is in
    search rules

pub loop-index-smaller-in-Abstraction : goal.loop-index-smaller-in-Abstraction
loop-index-smaller-in-Abstraction t c =
    body_below c.loop-index.invariant c.requires c.node_at.ensures c.in-Abstraction.is

pub loop-index-preserved-in-Abstraction : goal.loop-index-preserved-in-Abstraction
loop-index-preserved-in-Abstraction t c =
    at_abstraction c.loop-index.invariant c.requires c.node_at.ensures c.in-Abstraction.is

pub bounds-out-to-in-Application : goal.bounds-out-to-in-Application
bounds-out-to-in-Application t c =
    omega (arith, application_asks c.loop-index.invariant c.requires c.node_at.ensures c.in-Application.is)

pub overflow_add-to-in-Application : goal.overflow_add-to-in-Application
overflow_add-to-in-Application t c =
    let places = application_asks c.loop-index.invariant c.requires c.node_at.ensures c.in-Application.is in
    search rules

pub save-to-requires : goal.save-to-requires
save-to-requires t c =
    let now = c.loop-index.invariant in
    let falls = left_below now c.requires c.node_at.ensures c.in-Application.is in
    (omega (arith, now.not_above), left_asks now c.requires c.node_at.ensures c.in-Application.is)

pub loop-index-smaller : goal.loop-index-smaller
loop-index-smaller t c = right_below c.loop-index.invariant c.requires c.node_at.ensures c.in-Application.is

pub loop-index-preserved : goal.loop-index-preserved
loop-index-preserved t c =
    at_application c.loop-index.invariant c.requires c.node_at.ensures c.in-Application.is c.save-to.ensures
