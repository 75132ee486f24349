-- `parser::sequences::sequence` and `group` meet their contracts, each turn by a law. The text that remains falls.
use Rattle.std.proofs.lemmas.Result.{err_from_is_err_and}
use native.Mathlib.Omega.{arith}
use Rattle.words.proofs.Tables.{only_none}
use Rattle.parser.proofs.Meeting.{met-as, met-refused}
use Rattle.parser.proofs.Turns.{at_first, variable-read, closed-here, ended_here, refused_here}
use Rattle.parser.proofs.Nesting.{group-enters, nested_stops, group-read, body-read}
use Rattle.parser.proofs.Nesting.{last-few, went_on, roomy_after, joinable-after}
use Rattle.parser.proofs.sequences.+group_sequence.Goals as goal

pub group-returns : goal.group-returns
group-returns t c =
    group-enters c.requires.0 (omega (arith, c.len.ensures)) _ c.requires.1 (rw c.push.ensures at c.sequence-went.ensures) c.pop.ensures

pub sequence-loop-token-init : goal.sequence-loop-token-init
sequence-loop-token-init t c = at_first _ _ _ _ _ _ _ c.requires

pub sequence-loop-token-preserved-in-Index : goal.sequence-loop-token-preserved-in-Index
sequence-loop-token-preserved-in-Index t c =
    let met = met-as _ _ _ _ c.token_at.ensures c.in_ok-token.was c.in-Index.is in
    variable-read c.loop-token.invariant met c.with_variable-read.ensures

pub sequence-returns-in_err-token : goal.sequence-returns-in_err-token
sequence-returns-in_err-token t c =
    let p = err_from_is_err_and c.from_residual.result c.from_residual.ensures.1 in
    rw (p.1, p.2) (refused_here c.loop-token.invariant (met-refused _ _ _ _ c.token_at.ensures c.in_err-token.was))

pub sequence-returns-in_err-went-in-Open : goal.sequence-returns-in_err-went-in-Open
sequence-returns-in_err-went-in-Open t c =
    let met = met-as _ _ _ _ c.token_at.ensures c.in_ok-token.was c.in-Open.is in
    let r = c.from_residual-in_err-went-in-Open in
    let p = err_from_is_err_and r.result r.ensures.1 in
    rw (p.1, p.2) (nested_stops c.loop-token.invariant met c.in_err-went-in-Open.was c.group.ensures)

pub sequence-with_abstraction-requires : goal.sequence-with_abstraction-requires
sequence-with_abstraction-requires t c =
    let met = met-as _ _ _ _ c.token_at.ensures c.in_ok-token.was c.in-Open.is in
    let so_far = c.loop-token.invariant in
    let went = c.in_ok-went-in-Open.was in
    let few = last-few so_far met went c.group.ensures c.args.text.clean c.requires in
    (roomy_after so_far met went c.group.ensures c.args.text.clean c.requires, joinable-after so_far met went c.group.ensures, few)

pub sequence-returns-in-Some : goal.sequence-returns-in-Some
sequence-returns-in-Some t c =
    let met = met-as _ _ _ _ c.token_at.ensures c.in_ok-token.was c.in-Open.is in
    body-read c.loop-token.invariant met c.in_ok-went-in-Open.was c.group.ensures c.in-Some.is
    c.with_abstraction.ensures

pub sequence-joined-read-requires : goal.sequence-joined-read-requires
sequence-joined-read-requires t c =
    let met = met-as _ _ _ _ c.token_at.ensures c.in_ok-token.was c.in-Open.is in
    let so_far = c.loop-token.invariant in
    let went = c.in_ok-went-in-Open.was in
    (roomy_after so_far met went c.group.ensures c.args.text.clean c.requires, joinable-after so_far met went c.group.ensures)

pub sequence-loop-token-smaller : goal.sequence-loop-token-smaller
sequence-loop-token-smaller t c =
    let met = met-as _ _ _ _ c.token_at.ensures c.in_ok-token.was c.in-Open.is in
    omega (arith, went_on c.loop-token.invariant met c.in_ok-went-in-Open.was c.group.ensures)

pub sequence-loop-token-preserved : goal.sequence-loop-token-preserved
sequence-loop-token-preserved t c =
    let met = met-as _ _ _ _ c.token_at.ensures c.in_ok-token.was c.in-Open.is in
    group-read c.loop-token.invariant met c.in_ok-went-in-Open.was c.group.ensures
    (only_none _ c.in_default.not-Some) c.joined-read.ensures

pub sequence-returns-in-Close : goal.sequence-returns-in-Close
sequence-returns-in-Close t c =
    closed-here c.loop-token.invariant (met-as _ _ _ _ c.token_at.ensures c.in_ok-token.was c.in-Close.is)

pub sequence-returns-in-End : goal.sequence-returns-in-End
sequence-returns-in-End t c =
    ended_here c.loop-token.invariant (met-as _ _ _ _ c.token_at.ensures c.in_ok-token.was c.in-End.is)
