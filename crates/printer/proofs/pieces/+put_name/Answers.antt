-- `printer::pieces::put_name` meets its contract: all letters but the last are a call. The letters are the measure, and
-- no number has more than 14 (`shown_name`).
use Prim.Native.Nat.{◌+◌, ◌-◌, ◌/◌, ◌%◌}
use mathlib.Core.Path.{ap}
use mathlib.Core.List.{[], ◌∷◌}
use native.Mathlib.Omega.{arith}
use lib.ListN.{length}
use Rattle.calculus.specs.Writing.{name_text}
use Rattle.calculus.proofs.Putting.{puts_then}
use Rattle.printer.proofs.Naming.{name_of_one, name_of_more, name_longer}
use Rattle.printer.proofs.pieces.+put_name.Goals as goal

pub put-requires : goal.put-requires
put-requires t c =
    omega (arith, c.requires, ap length (name_of_one c.args.number c.if-number-lt26.true))

pub returns-then-number-lt26 : goal.returns-then-number-lt26
returns-then-number-lt26 t c =
    rw (name_of_one c.args.number c.if-number-lt26.true) c.put.ensures

pub put_name-last-requires : goal.put_name-last-requires
put_name-last-requires t c =
    let longer = name_longer c.args.number c.if-number-lt26.false c.ranges.number.fits in
    (omega (arith, c.decreases, longer), omega (arith, c.requires, longer))

pub put-requires-2 : goal.put-requires-2
put-requires-2 t c =
    let longer = name_longer c.args.number c.if-number-lt26.false c.ranges.number.fits in
    omega (arith, c.requires, longer, c.put_name-last.ensures.reached)

pub returns : goal.returns
returns t c =
    let number = c.args.number in
    let last = (97 + number % 26) ∷ [] in
    rw (name_of_more number c.if-number-lt26.false c.ranges.number.fits)
    (puts_then (name_text (number / 26 - 1)) last c.put_name-last.ensures c.put-2.ensures)
