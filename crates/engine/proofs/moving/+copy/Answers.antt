-- `moving::copy` meets its contract: at each kind it is a law of `Renewing`. The node number falls at each call.
use Prim.Native.Nat.{ℕ, ◌+◌, ◌*◌, ◌≤◌, ◌<◌}
use native.Mathlib.Omega.{arith}
use lib.ListN.{length}
use Rattle.engine.proofs.Renewing.{variable-fits, at_variable, body_asks, abstraction-fits, at_abstraction}
use Rattle.engine.proofs.Renewing.{left_asks, right_asks, application-fits, at_application}
use Rattle.engine.proofs.moving.+copy.Goals as goal
use Rattle.engine.proofs.moving.+copy.Goals.{After-copy-top, After-copy-top-in-Application}

-- once the body is copied, there is room for the node
body_copied : (t : ℕ) (c : After-copy-top t)
    → (0 < c.copy-top.result) × (c.args.base + c.copy-top.result < 4294967296)
    × (2 * (c.args.base + c.copy-top.result) + 2 ≤ length c.copy-top.new.store)
body_copied t c =
    abstraction-fits c.requires.1 c.node_at.ensures c.in-Abstraction.is c.copy-top.ensures

-- once both parts are copied, there is room for the node
parts-copied : (t : ℕ) (c : After-copy-top-in-Application t)
    → (0 < c.copy-middle.result) × (c.copy-middle.result < c.copy-top-in-Application.result)
    × (c.args.base + c.copy-top-in-Application.result < 4294967296)
    × (2 * (c.args.base + c.copy-top-in-Application.result) + 2 ≤ length c.copy-top-in-Application.new.store)
parts-copied t c =
    application-fits c.requires.1 c.node_at.ensures c.in-Application.is c.copy-middle.ensures c.copy-top-in-Application.ensures

pub overflow_add-base : goal.overflow_add-base
overflow_add-base t c =
    let (low, _) = variable-fits c.requires.1 c.node_at.ensures in
    omega arith

pub put-requires : goal.put-requires
put-requires t c =
    (variable-fits c.requires.1 c.node_at.ensures).1

pub returns-in-Variable : goal.returns-in-Variable
returns-in-Variable t c =
    λ u can. at_variable can c.node_at.ensures c.in-Variable.is c.put.ensures

pub copy-top-requires : goal.copy-top-requires
copy-top-requires t c =
    let (falls, asks) = body_asks c.requires.1 c.node_at.ensures c.in-Abstraction.is in
    (omega arith, asks)

pub overflow_add-base-in-Abstraction : goal.overflow_add-base-in-Abstraction
overflow_add-base-in-Abstraction t c = let (_, low, _) = body_copied t (goal.at.overflow_add-base-in-Abstraction t c).After-copy-top in omega arith

pub overflow_sub-top : goal.overflow_sub-top
overflow_sub-top t c = (body_copied t (goal.at.overflow_sub-top t c).After-copy-top).0

pub put-requires-in-Abstraction : goal.put-requires-in-Abstraction
put-requires-in-Abstraction t c = (body_copied t (goal.at.put-requires-in-Abstraction t c).After-copy-top).2

pub returns-in-Abstraction : goal.returns-in-Abstraction
returns-in-Abstraction t c =
    λ u can. at_abstraction can c.node_at.ensures c.in-Abstraction.is c.copy-top.ensures
    c.put-in-Abstraction.ensures

pub copy-middle-requires : goal.copy-middle-requires
copy-middle-requires t c =
    let (falls, asks) = left_asks c.requires.1 c.node_at.ensures c.in-Application.is in
    (omega arith, asks)

pub copy-top-requires-in-Application : goal.copy-top-requires-in-Application
copy-top-requires-in-Application t c =
    let (falls, asks) = right_asks c.requires.1 c.node_at.ensures c.in-Application.is c.copy-middle.ensures in
    (omega arith, asks)

pub overflow_add-base-in-Application : goal.overflow_add-base-in-Application
overflow_add-base-in-Application t c = let (_, _, low, _) = parts-copied t (goal.at.overflow_add-base-in-Application t c).After-copy-top-in-Application in omega arith

pub overflow_sub-middle : goal.overflow_sub-middle
overflow_sub-middle t c = (parts-copied t (goal.at.overflow_sub-middle t c).After-copy-top-in-Application).0

pub pair-requires : goal.pair-requires
pair-requires t c =
    let (_, more, low, _) = parts-copied t (goal.at.pair-requires t c).After-copy-top-in-Application in (omega arith, omega arith)

pub put-requires-in-Application : goal.put-requires-in-Application
put-requires-in-Application t c = (parts-copied t (goal.at.put-requires-in-Application t c).After-copy-top-in-Application).3

pub returns-in-Application : goal.returns-in-Application
returns-in-Application t c =
    λ u can. at_application can c.node_at.ensures c.in-Application.is c.copy-middle.ensures
    c.copy-top-in-Application.ensures (omega arith) c.put-in-Application.ensures
