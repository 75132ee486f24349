-- `reduction::reducing::work` meets its contract: an input that is loaded is the last node, whose steps are made.
use Rattle.std.proofs.lemmas.Result.{err_from_is_err_and}
use Rattle.nodes.specs.Reading.{Taken}
use Rattle.nodes.proofs.Granting.{lent_on}
use Rattle.reduction.proofs.Reductions.{taken-steps, taken-reduced, input-stops}
use Rattle.reduction.proofs.reducing.work.Goals as goal
use Rattle.reduction.proofs.reducing.work.Goals.{In_ok-used}

loaded : (c : In_ok-used) → Taken c.args.cap c.args.s.now 0 c.in_ok-used.used c.load_checked.new.room
loaded c = rw c.in_ok-used.was at c.load_checked.ensures.taken

pub returns-in_err-used : goal.returns-in_err-used
returns-in_err-used c =
    let p = err_from_is_err_and c.from_residual.result c.from_residual.ensures.1 in
    rw (p.1, p.2) (input-stops _ _ _ _ _ c.load_checked.ensures.same.as_long
    (rw c.in_err-used.was at c.load_checked.ensures.refuses))

pub step_on-requires : goal.step_on-requires
step_on-requires c =
    let long = c.load_checked.ensures.same.as_long in
    (lent_on c.requires long, (_, taken-steps c.requires long (loaded (goal.at.step_on-requires c).In_ok-used)))

pub returns : goal.returns
returns c =
    taken-reduced c.requires c.load_checked.ensures.same.as_long (loaded (goal.at.returns c).In_ok-used) _ _ _
    c.step_on.ensures
