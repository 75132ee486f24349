-- `parser::parse` meets its contract: 1, 2, then the work, and the room cleared.
use mathlib.Core.Path.{sym, ◌∙◌}
use native.Mathlib.Omega.{arith}
use lib.Seq.{length-take-le}
use Rattle.std.proofs.lemmas.Result.{err_from_is_err_and}
use Rattle.calculus.specs.Refusal.{refused, ◌then◌}
use Rattle.calculus.specs.Reading.{read_text}
use Rattle.calculus.specs.Outcomes.{stored, coded}
use Rattle.term.specs.Notations.{notation_of}
use Rattle.nodes.proofs.Granting.{Passed, granted, not_granted, room_suffices, first-lent, answered}
use Rattle.parser.proofs.Answering.{parse_lent}
use Rattle.parser.proofs.parse.Goals as goal
use Rattle.parser.proofs.parse.Goals.{In_ok-most}

-- what 1 and 2 let pass
passes : (c : In_ok-most) → let start = c.args in
    Passed start.cap start.out.now start.room.now c.in_ok-most.most
passes c = granted _ _ _ c.grant.ensures c.in_ok-most.was

pub returns-in_err-most : goal.returns-in_err-most
returns-in_err-most c =
    let p = err_from_is_err_and c.from_residual.result c.from_residual.ensures.1 in
    rw (p.1, p.2) (not_granted _ _ _ refused _ c.grant.ensures c.in_err-most.was ∙ sym (parse_lent _ _ _ _ _))

pub overflow_mul-most : goal.overflow_mul-most
overflow_mul-most c = let few = (first-lent _ _ _ (passes (goal.at.overflow_mul-most c).In_ok-most)).in_bounds in omega arith

pub slice_bounds-read-end : goal.slice_bounds-read-end
slice_bounds-read-end c = room_suffices _ _ _ (passes (goal.at.slice_bounds-read-end c).In_ok-most)

pub slice_bounds-read-end-2 : goal.slice_bounds-read-end-2
slice_bounds-read-end-2 c = sym (length-take-le _ _ (room_suffices _ _ _ (passes (goal.at.slice_bounds-read-end-2 c).In_ok-most)))

pub read-answer-requires : goal.read-answer-requires
read-answer-requires c = first-lent _ _ _ (passes (goal.at.read-answer-requires c).In_ok-most)

pub clear-requires : goal.clear-requires
clear-requires c =
    let enough = room_suffices _ _ _ (passes (goal.at.clear-requires c).In_ok-most) in
    let few = (first-lent _ _ _ (passes (goal.at.clear-requires c).In_ok-most)).in_bounds in
    (few, omega arith)

pub returns : goal.returns
returns c =
    let a = c.args in
    answered _ _ _ (passes (goal.at.returns c).In_ok-most) refused
    (λ cap. stored (read_text (notation_of a.notation) cap a.text.now then coded) a.out.now) c.read-answer.ensures
    c.clear.ensures
    ∙ sym (parse_lent _ _ _ _ _)
