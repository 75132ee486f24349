-- `marking::telling::put_decimal` meets its contract: all digits but the last are a call, which may have one fewer.
use Prim.Native.Nat.{◌+◌, ◌-◌, ◌/◌, ◌%◌}
use mathlib.Core.List.{[], ◌∷◌}
use Rattle.calculus.specs.Numbers.{numeral}
use Rattle.calculus.proofs.Putting.{puts_then}
use Rattle.marking.proofs.Decimals.{more_digits}
use Rattle.marking.proofs.telling.+put_decimal.Goals as goal

pub returns : goal.returns
returns t c =
    let number = c.args.number in
    rw (more_digits c.args.most number c.if-most-eq0.false c.if-number-lt10.false)
    (puts_then (numeral 10 (c.args.most - 1) (number / 10)) ((48 + number % 10) ∷ [])
    c.put_decimal-last.ensures c.put-2.ensures)
