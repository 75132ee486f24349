-- `nodes::make_application` meets its contract.
use mathlib.Core.Path.{◌≡◌}
use native.Mathlib.Omega.{arith}
use Rattle.nodes.specs.Store.{word}
use Rattle.nodes.proofs.Keeping.{says}
use Rattle.nodes.proofs.Making.{application-word, says-application, application-made}
use Rattle.nodes.proofs.make_application.Goals as goal

pub returns : goal.returns
returns c =
    let x = c.args in
    let xs = x.room.now in
    let a = word xs x.left in
    let b = word xs x.right in
    let word_is : c.pack-facts.result ≡ application-word a b =
    rw (
      c.pack-facts.ensures,
      c.settle.ensures,
      c.max-2.ensures,
      c.free_of-2.ensures,
      c.free_of.ensures,
      c.max.ensures,
      c.height_of-2.ensures,
      c.height_of.ensures,
      c.nodes_of-2.ensures,
      c.nodes_of.ensures,
    ) in
    let said = says-application a b (omega arith) (omega arith) in
    application-made xs x.used _ _ (omega arith) c.put.ensures c.pair.ensures (omega arith)
    (omega arith) (omega arith) (λ t u h k. rw word_is (said t u (says xs t x.left h) (says xs u x.right k)))
