-- `printer::pieces::put_index` meets its contract: index 0, one digit, or digits in brackets.
use mathlib.Core.Path.{ap}
use mathlib.Core.List.{[], ◌∷◌, ◌++◌}
use native.Mathlib.Omega.{arith}
use lib.ListN.{length}
use Rattle.printer.specs.Pieces.{figures}
use Rattle.calculus.proofs.Putting.{puts_then}
use Rattle.printer.proofs.Figures.{length-figures, index-zero, index_one_digit, index_in_brackets}
use Rattle.printer.proofs.Figures.{brackets_length, index_longer}
use Rattle.printer.proofs.pieces.put_index.Goals as goal

pub put_all-requires : goal.put_all-requires
put_all-requires c =
    omega (arith, rw (c.if-index-eq0.true, index-zero) at c.requires)

pub returns-then-index-eq0 : goal.returns-then-index-eq0
returns-then-index-eq0 c =
    rw (c.if-index-eq0.true, index-zero) c.put_all.ensures

pub put_figure-requires : goal.put_figure-requires
put_figure-requires c =
    let text = index_one_digit c.args.index c.if-index-eq0.false c.if-index-lt16.true in
    record { digit_bound = c.if-index-lt16.true; to_lt_greatest_number = omega (arith, c.requires, ap length text) }

pub returns-then-index-lt16 : goal.returns-then-index-lt16
returns-then-index-lt16 c =
    rw (index_one_digit c.args.index c.if-index-eq0.false c.if-index-lt16.true)
    c.put_figure.ensures

pub put-bracket-requires : goal.put-bracket-requires
put-bracket-requires c =
    let longer = index_longer c.args.index c.if-index-lt16.false in
    omega (arith, c.requires, longer)

pub put_figures-end-requires : goal.put_figures-end-requires
put_figures-end-requires c =
    let (few, all) = c.figures_needed.ensures in
    let longer = brackets_length c.args.index c.figures_needed.result c.if-index-lt16.false all in
    record { count_bound = few; count_bound_2 = omega (arith, c.requires, longer, c.put-bracket.ensures.reached) }

pub put-requires : goal.put-requires
put-requires c =
    let index = c.args.index in
    let count = c.figures_needed.result in
    let longer = brackets_length index count c.if-index-lt16.false c.figures_needed.ensures.1 in
    omega (
      arith,
      c.requires,
      longer,
      c.put-bracket.ensures.reached,
      c.put_figures-end.ensures.reached,
      length-figures count index,
    )

pub returns : goal.returns
returns c =
    let index = c.args.index in
    let count = c.figures_needed.result in
    let rest = puts_then (figures count index) (93 ∷ []) c.put_figures-end.ensures
    c.put.ensures in
    rw (index_in_brackets index count c.if-index-lt16.false c.figures_needed.ensures.1)
    (puts_then (91 ∷ []) (figures count index ++ (93 ∷ [])) c.put-bracket.ensures rest)
