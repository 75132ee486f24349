-- `eta::eta` meets its contract: 1, 2, then the work, and the room cleared.
use mathlib.Core.Path.{sym, ◌∙◌}
use native.Mathlib.Omega.{arith}
use lib.Seq.{length-take-le}
use Rattle.std.proofs.lemmas.Result.{err_from_is_err_and}
use Rattle.calculus.specs.Runs.{refused_after}
use Rattle.calculus.specs.Eta.{eta}
use Rattle.calculus.specs.Outcomes.{checked, run_on, stored_run}
use Rattle.nodes.specs.Answers.{run_told}
use Rattle.nodes.proofs.Granting.{Passed, granted, not_granted, room_suffices, first-lent, answered}
use Rattle.eta.proofs.Answering.{eta_lent}
use Rattle.eta.proofs.eta.Goals as goal
use Rattle.eta.proofs.eta.Goals.{In_ok-most}

-- what 1 and 2 let pass
passes : (c : In_ok-most) → let start = c.args in
    Passed start.cap start.out.now start.room.now c.in_ok-most.most
passes c = granted _ _ _ c.grant.ensures c.in_ok-most.was

pub returns-in_err-most : goal.returns-in_err-most
unfolding run_told
returns-in_err-most c =
    let p = err_from_is_err_and c.from_residual.result c.from_residual.ensures.1 in
    rw (p.1, p.2) (not_granted _ _ _ (refused_after 0) _ c.grant.ensures c.in_err-most.was ∙ sym (eta_lent _ _ _ _ _))

pub overflow_mul-most : goal.overflow_mul-most
overflow_mul-most c = let few = (first-lent _ _ _ (passes (goal.at.overflow_mul-most c).In_ok-most)).in_bounds in omega arith

pub slice_bounds-work-end : goal.slice_bounds-work-end
slice_bounds-work-end c = room_suffices _ _ _ (passes (goal.at.slice_bounds-work-end c).In_ok-most)

pub slice_bounds-work-end-2 : goal.slice_bounds-work-end-2
slice_bounds-work-end-2 c = sym (length-take-le _ _ (room_suffices _ _ _ (passes (goal.at.slice_bounds-work-end-2 c).In_ok-most)))

pub work-answer-requires : goal.work-answer-requires
work-answer-requires c = first-lent _ _ _ (passes (goal.at.work-answer-requires c).In_ok-most)

pub clear-requires : goal.clear-requires
clear-requires c =
    let enough = room_suffices _ _ _ (passes (goal.at.clear-requires c).In_ok-most) in
    let few = (first-lent _ _ _ (passes (goal.at.clear-requires c).In_ok-most)).in_bounds in
    (few, omega arith)

pub returns : goal.returns
returns c =
    let a = c.args in
    answered _ _ _ (passes (goal.at.returns c).In_ok-most) (refused_after 0)
    (λ cap. stored_run (run_on (checked cap a.s.now) (eta a.limit)) a.out.now) c.work-answer.ensures c.clear.ensures
    ∙ sym (eta_lent _ _ _ _ _)
