-- `nodes::make_abstraction` meets its contract.
use mathlib.Core.Path.{◌≡◌}
use native.Mathlib.Omega.{arith}
use Rattle.nodes.specs.Store.{word}
use Rattle.nodes.proofs.Keeping.{says}
use Rattle.nodes.proofs.Making.{abstraction-word, says-abstraction, abstraction-made}
use Rattle.nodes.proofs.make_abstraction.Goals as goal

pub returns : goal.returns
returns c =
    let a = c.args in
    let xs = a.room.now in
    let w = word xs a.body in
    let word_is : c.pack-facts.result ≡ abstraction-word w =
    rw (
      c.pack-facts.ensures,
      c.normal_of.ensures,
      c.lower.ensures,
      c.free_of.ensures,
      c.height_of.ensures,
      c.nodes_of.ensures,
    ) in
    let said = says-abstraction w (omega arith) (omega arith) in
    abstraction-made xs a.used _ a.body (omega arith) c.put.ensures (omega arith)
    (λ t h. rw word_is (said t (says xs t a.body h)))
