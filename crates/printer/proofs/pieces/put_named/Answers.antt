-- `printer::pieces::put_named` meets its contract: index 0, a bound variable, or a free one.
use mathlib.Core.Path.{ap}
use native.Mathlib.Omega.{arith}
use lib.ListN.{length}
use Rattle.calculus.specs.Characters.{codes}
use Rattle.printer.proofs.Naming.{variable-zero, variable-bound, variable_free}
use Rattle.printer.proofs.pieces.put_named.Goals as goal

pub put_all-requires : goal.put_all-requires
unfolding codes
put_all-requires c =
    omega (arith, rw (c.if-index-eq0.true, variable-zero c.args.most c.args.depth) at c.requires)

pub returns-then-index-eq0 : goal.returns-then-index-eq0
unfolding codes
returns-then-index-eq0 c =
    rw (c.if-index-eq0.true, variable-zero c.args.most c.args.depth) c.put_all.ensures

pub put_name-requires : goal.put_name-requires
put_name-requires c =
    let text = variable-bound c.args.most c.args.depth c.args.index c.if-index-eq0.false
    c.if-index-depth.true in
    omega (arith, c.requires, ap length text)

pub put_name-requires-else-index-depth : goal.put_name-requires-else-index-depth
put_name-requires-else-index-depth c =
    let text = variable_free c.args.most c.args.depth c.args.index c.if-index-depth.false in
    rw c.free_name.ensures (omega (arith, c.requires, ap length text))

pub returns-then-index-depth : goal.returns-then-index-depth
returns-then-index-depth c =
    let a = c.args in
    let text = variable-bound a.most a.depth a.index c.if-index-eq0.false c.if-index-depth.true in
    rw text c.put_name.ensures

pub returns-else-index-depth : goal.returns-else-index-depth
returns-else-index-depth c =
    rw (
      variable_free c.args.most c.args.depth c.args.index c.if-index-depth.false,
      ← c.free_name.ensures,
    ) c.put_name-else-index-depth.ensures
