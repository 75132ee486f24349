-- `marking::asking::split_digits` meets its contract: the slice is parted where its own search ends.
use Rattle.std.proofs.Common.{◌∙◌}
use Rattle.calculus.specs.Classic.{is_figure}
use Rattle.marking.proofs.Digits.{start_taken, rest_left}
use Rattle.marking.proofs.asking.split_digits.Goals as goal

pub returns-clause-digits : goal.returns-clause-digits
returns-clause-digits c =
    c.split_at.ensures.front
    ∙ rw (c.unwrap_or.ensures, c.digits_end.ensures) (start_taken is_figure c.args.s.now)

pub returns-clause-after : goal.returns-clause-after
returns-clause-after c =
    c.split_at.ensures.back
    ∙ rw (c.unwrap_or.ensures, c.digits_end.ensures) (rest_left is_figure c.args.s.now)
