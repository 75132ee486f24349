-- `nodes::make_variable` meets its contract: what is put are the variable's numbers.
use native.Mathlib.Omega.{arith}
use Rattle.std.proofs.Common.{◌≡◌, min}
use Rattle.nodes.specs.Packing.{packed}
use Rattle.nodes.proofs.Making.{says_variable, variable-made}
use Rattle.nodes.proofs.make_variable.Goals as goal

pub returns : goal.returns
returns c =
    let a = c.args in
    let word : c.pack.result ≡ packed 1 1 1 (min a.index 1023) 1 = grind arith in
    variable-made a.room.now a.used c.pack.result a.index (omega arith) (omega arith, grind arith)
    (rw word (says_variable a.index))
