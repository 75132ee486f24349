-- `words::Cursor::bracketed` meets its contract. The invariant: the digits read so far are the index.
use mathlib.Core.Path.{sym, ◌∙◌}
use native.Mathlib.Omega.{arith}
use Rattle.words.proofs.Tables.{digit_few, only_none}
use Rattle.words.proofs.Passing.{Stands}
use Rattle.words.proofs.Indices.{opened-last, opened_wrong, so_far_starts, so_far_goes_on, so_far_over}
use Rattle.words.proofs.Indices.{so_far_wrong, so_far_closes, so_far_ends}
use Rattle.words.proofs.Cursor.bracketed.Goals as goal

pub returns-then-text-first : goal.returns-then-text-first
returns-then-text-first c =
    let stands : Stands _ _ = (c.args.text.clean, c.requires.placed.0, c.requires.placed.1) in
    let bracket = c.requires.at_value in
    opened-last stands c.past-here.ensures bracket c.if-text-first.true

pub returns-in_default : goal.returns-in_default
returns-in_default c =
    let stands : Stands _ _ = (c.args.text.clean, c.requires.placed.0, c.requires.placed.1) in
    let bracket = c.requires.at_value in
    opened_wrong stands c.past-here.ensures bracket c.if-text-first.false (sym c.hex_digit.ensures ∙ only_none _ c.in_default.not-Some)

pub loop-here-init : goal.loop-here-init
loop-here-init c =
    let stands : Stands _ _ = (c.args.text.clean, c.requires.placed.0, c.requires.placed.1) in
    let bracket = c.requires.at_value in
    so_far_starts stands c.past-here.ensures bracket c.if-text-first.false
    (sym c.hex_digit.ensures ∙ c.in-Some.is) c.past-here-2.ensures

pub returns-then-b-eq93 : goal.returns-then-b-eq93
returns-then-b-eq93 c =
    let so_far = c.loop-here.invariant in
    so_far_closes so_far c.loop-here-test.true c.past.ensures c.if-b-eq93.true

pub returns-in_default-hex_digit : goal.returns-in_default-hex_digit
returns-in_default-hex_digit c =
    let so_far = c.loop-here.invariant in
    so_far_wrong so_far c.loop-here-test.true (sym c.hex_digit-in-loop-here.ensures ∙ c.in_default-hex_digit.is) c.if-b-eq93.false

pub returns-then-index-gt-MOST_TO_LENGTHEN : goal.returns-then-index-gt-MOST_TO_LENGTHEN
returns-then-index-gt-MOST_TO_LENGTHEN c =
    let so_far = c.loop-here.invariant in
    so_far_over so_far c.loop-here-test.true (sym c.hex_digit-in-loop-here.ensures ∙ c.in-Some-hex_digit.is) (omega arith)

pub loop-here-preserved : goal.loop-here-preserved
loop-here-preserved c =
    let is = sym c.hex_digit-in-loop-here.ensures ∙ c.in-Some-hex_digit.is in
    so_far_goes_on c.loop-here.invariant c.loop-here-test.true is c.past-here-in-loop-here.ensures
    (omega (arith, digit_few _ (c.args.text.clean.only_bytes _) is))

pub returns : goal.returns
returns c = so_far_ends c.loop-here.invariant c.loop-here-test.false

pub overflow_add-index : goal.overflow_add-index
overflow_add-index c =
    let few = digit_few _ (c.args.text.clean.only_bytes _) (sym c.hex_digit-in-loop-here.ensures ∙ c.in-Some-hex_digit.is) in
    omega (arith, few)
