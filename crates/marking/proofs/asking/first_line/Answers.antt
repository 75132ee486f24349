-- `marking::asking::first_line` meets its contract: what each part's function tells is a fact of that part.
use Rattle.std.proofs.Common.{◌≡◌, sym, take, drop}
use Rattle.std.proofs.Math.Option.{some}
use Rattle.calculus.specs.Words.{start, rest}
use Rattle.calculus.specs.Classic.{is_figure}
use Rattle.calculus.specs.Program.{look_up, order_words, notation_words, past, limit_in}
use Rattle.orders.specs.Orders.{order_of}
use Rattle.term.specs.Notations.{notation_of}
use Rattle.marking.proofs.Digits.{start_again}
use Rattle.marking.proofs.FirstLine.{there, missing, malformed, no_order, no_space, no_number, no_gap, no-notation, no_feed, a_job}
use Rattle.marking.proofs.asking.first_line.Goals as goal
use Rattle.marking.proofs.asking.first_line.Goals.{In_ok-order, In_ok-past, In_ok-limit, In_ok-past-2, In_ok-notation}

order : (c : In_ok-order) → look_up order_words (take 3 c.args.s.now) ≡ some (order_of c.in_ok-order.order)
order c = rw c.split_word.ensures.word at (there order_of c.named_order.ensures c.in_ok-order.was)

space : (c : In_ok-past) → past 32 (drop 3 c.args.s.now) ≡ some c.in_ok-past.field-0.now
space c = rw c.split_word.ensures.after at (there (λ after. after.now) c.past.ensures c.in_ok-past.was)

limited : (c : In_ok-limit) → limit_in (start is_figure c.in_ok-past.field-0.now) ≡ some c.in_ok-limit.limit
limited c = rw c.split_digits.ensures.digits at (there (λ n. n) c.number.ensures c.in_ok-limit.was)

gap : (c : In_ok-past-2) → past 32 (rest is_figure c.in_ok-past.field-0.now) ≡ some c.in_ok-past-2.field-0.now
gap c = rw c.split_digits.ensures.after at (there (λ after. after.now) c.past-2.ensures c.in_ok-past-2.was)

noted : (c : In_ok-notation)
    → look_up notation_words (take 3 c.in_ok-past-2.field-0.now) ≡ some (notation_of c.in_ok-notation.notation)
noted c = rw c.split_word-2.ensures.word at (there notation_of c.named_notation.ensures c.in_ok-notation.was)

pub returns-in_err-order : goal.returns-in_err-order
returns-in_err-order c =
    malformed c.from_residual.ensures
    (no_order _ (rw c.split_word.ensures.word at (missing order_of c.named_order.ensures c.in_err-order.was)))

pub returns-in_err-past : goal.returns-in_err-past
returns-in_err-past c =
    let met = goal.at.returns-in_err-past c in
    malformed c.from_residual-in_err-past.ensures
    (no_space _ (order met.In_ok-order) (rw c.split_word.ensures.after at (missing (λ after. after.now) c.past.ensures c.in_err-past.was)))

pub number-requires : goal.number-requires
number-requires c = rw (c.split_digits.ensures.digits) (start_again is_figure _)

pub returns-in_err-limit : goal.returns-in_err-limit
returns-in_err-limit c =
    let met = goal.at.returns-in_err-limit c in
    malformed c.from_residual-in_err-limit.ensures
    (no_number _ (order met.In_ok-order) (space met.In_ok-past)
    (rw c.split_digits.ensures.digits at (missing (λ n. n) c.number.ensures c.in_err-limit.was)))

pub returns-in_err-past-2 : goal.returns-in_err-past-2
returns-in_err-past-2 c =
    let met = goal.at.returns-in_err-past-2 c in
    malformed c.from_residual-in_err-past-2.ensures
    (no_gap _ (order met.In_ok-order) (space met.In_ok-past) (limited met.In_ok-limit)
    (rw c.split_digits.ensures.after at (missing (λ after. after.now) c.past-2.ensures c.in_err-past-2.was)))

pub returns-in_err-notation : goal.returns-in_err-notation
returns-in_err-notation c =
    let met = goal.at.returns-in_err-notation c in
    malformed c.from_residual-in_err-notation.ensures
    (no-notation _ (order met.In_ok-order) (space met.In_ok-past) (limited met.In_ok-limit) (gap met.In_ok-past-2)
    (rw c.split_word-2.ensures.word at (missing notation_of c.named_notation.ensures c.in_err-notation.was)))

pub returns-in_err-text : goal.returns-in_err-text
returns-in_err-text c =
    let met = goal.at.returns-in_err-text c in
    malformed c.from_residual-in_err-text.ensures
    (no_feed _ (order met.In_ok-order) (space met.In_ok-past) (limited met.In_ok-limit) (gap met.In_ok-past-2)
    (noted met.In_ok-notation)
    (rw c.split_word-2.ensures.after at (missing (λ after. after.now) c.past-3.ensures c.in_err-text.was)))

pub returns : goal.returns
returns c =
    let met = goal.at.returns c in
    sym
    (a_job _ (order met.In_ok-order) (space met.In_ok-past) (limited met.In_ok-limit) (gap met.In_ok-past-2)
    (noted met.In_ok-notation)
    (rw c.split_word-2.ensures.after at (there (λ after. after.now) c.past-3.ensures c.in_ok-text.was)))
