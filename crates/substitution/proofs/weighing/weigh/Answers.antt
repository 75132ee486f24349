-- `substitution::weighing::weigh` meets its contract: what was measured is what the contraction measures.
use native.Mathlib.Omega.{arith}
use Rattle.substitution.proofs.Weights.{measure_asks, left-low, copies-low, at_end}
use Rattle.substitution.proofs.weighing.weigh.Goals as goal

pub measure-found-requires : goal.measure-found-requires
measure-found-requires c = measure_asks c.requires c.height_of.ensures

pub overflow_sub-left : goal.overflow_sub-left
overflow_sub-left c =
    let asked = c.requires in
    (left-low asked c.height_of.ensures c.measure-found.ensures c.nodes_of.ensures).0

pub overflow_mul-nodes : goal.overflow_mul-nodes
overflow_mul-nodes c =
    let asked = c.requires in
    let low = copies-low asked c.height_of.ensures c.measure-found.ensures
    c.nodes_of.ensures c.nodes_of-2.ensures in
    omega arith

pub overflow_add-nodes : goal.overflow_add-nodes
overflow_add-nodes c =
    let asked = c.requires in
    let tall = c.height_of.ensures in
    let measured = c.measure-found.ensures in
    let low = copies-low asked tall measured c.nodes_of.ensures c.nodes_of-2.ensures in
    let (_, few) = left-low asked tall measured c.nodes_of.ensures in
    omega arith

pub returns : goal.returns
returns c =
    at_end c.requires c.height_of.ensures c.measure-found.ensures
    c.nodes_of.ensures c.nodes_of-2.ensures
    (λ i. (c.type_inv.room i).fits) c.bursts-bursts.ensures
