-- `marking::telling::put_line` meets its contract: a word, a space, digits and a line feed, one after the other.
use mathlib.Core.List.{[], ◌∷◌, ◌++◌}
use Rattle.calculus.specs.Numbers.{numeral}
use Rattle.calculus.proofs.Putting.{puts_then}
use Rattle.marking.proofs.telling.put_line.Goals as goal

pub returns : goal.returns
returns c =
    let digits = numeral 10 7 c.args.number in
    let after-gap = puts_then digits (10 ∷ []) c.put_decimal-end.ensures c.put.ensures in
    puts_then c.args.word.now (32 ∷ (digits ++ (10 ∷ []))) c.put_all-gap.ensures
    (puts_then (32 ∷ []) (digits ++ (10 ∷ [])) c.put-digits.ensures after-gap)
