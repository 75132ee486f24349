-- `engine::contracting::contract` meets its contract: where it may be made at once, by the laws of `AtOnce`.
use native.Mathlib.Omega.{arith}
use borrow.Author.Rules.{rules}
use Rattle.engine.proofs.Contractions.{told_of}
use Rattle.engine.proofs.AtOnce.{at_spent, body-inside, contractible, assured}
use Rattle.engine.proofs.contracting.contract.Goals as goal

pub returns-then-work-eq0 : goal.returns-then-work-eq0
returns-then-work-eq0 c b a redex =
    at_spent redex c.if-work-eq0.true (told_of c.stopped.ensures)

pub overflow_mul-body-2 : goal.overflow_mul-body-2
overflow_mul-body-2 c =
    omega (arith, body-inside c.requires.2)

pub offset_bounds-room-body : goal.offset_bounds-room-body
offset_bounds-room-body c =
    omega (arith, body-inside c.requires.2)

pub bounds-room-body : goal.bounds-room-body
bounds-room-body c =
    omega (arith, body-inside c.requires.2)

pub contract_weighed-requires : goal.contract_weighed-requires
contract_weighed-requires c = (
  _,
  _,
  contractible c.requires.2 c.nodes_of-own.ensures c.nodes_of-each.ensures
      c.if-work-eq0.false,
)

pub returns-then-free_of-ge-UNKNOWN : goal.returns-then-free_of-ge-UNKNOWN
returns-then-free_of-ge-UNKNOWN c b a redex =
    c.contract_weighed.ensures b a (contractible redex c.nodes_of-own.ensures
    c.nodes_of-each.ensures c.if-work-eq0.false)

pub contract_weighed-requires-then-room-work : goal.contract_weighed-requires-then-room-work
contract_weighed-requires-then-room-work c = (
  _,
  _,
  contractible c.requires.2 c.nodes_of-own.ensures c.nodes_of-each.ensures
      c.if-work-eq0.false,
)

pub returns-then-room-work : goal.returns-then-room-work
returns-then-room-work c b a redex =
    c.contract_weighed-then-room-work.ensures b a (contractible redex c.nodes_of-own.ensures
    c.nodes_of-each.ensures c.if-work-eq0.false)

pub contract_at_once-requires : goal.contract_at_once-requires
contract_at_once-requires c = (
  _,
  _,
  assured c.requires.2 c.nodes_of-own.ensures c.nodes_of-each.ensures c.if-work-eq0.false
      (search rules)
      (omega (arith, c.free_of.ensures, c.if-free_of-ge-UNKNOWN.false)) c.if-room-work.false,
)

pub returns : goal.returns
returns c b a redex =
    c.contract_at_once.ensures b a
    (assured redex c.nodes_of-own.ensures c.nodes_of-each.ensures c.if-work-eq0.false
    (search rules)
    (omega (arith, c.free_of.ensures, c.if-free_of-ge-UNKNOWN.false)) c.if-room-work.false)
