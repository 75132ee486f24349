-- `marking::reduce` meets its contract: the two lines of a term that was reached, or the line of a refusal.
use mathlib.Core.Path.{sym}
use native.Mathlib.Omega.{arith}
use lib.Seq.{length-take-le}
use Rattle.calculus.specs.Bounds.{program_cap}
use Rattle.calculus.specs.Characters.{codes}
use Rattle.calculus.specs.Outcomes.{reduced}
use Rattle.nodes.specs.Answers.{ended}
use Rattle.orders.specs.Orders.{order_of}
use Rattle.marking.proofs.Reporting.{Found, found_at, refused_at, found-fits}
use Rattle.marking.proofs.Reporting.{finished_reported, unfinished_reported, refused_reported}
use Rattle.marking.proofs.reduce.Goals as goal
use Rattle.marking.proofs.reduce.Goals.{In-Ok}

-- the term that was reached
reached : (c : In-Ok) → let args = c.args in
    Found (reduced (order_of args.order) args.limit program_cap args.s.now)
    (ended c.in-Ok.run'.end c.in-Ok.run'.steps) c.in-Ok.run'.length c.reduce.new.out
reached c = found_at _ _ _ _ _ c.requires.allowed (omega arith) c.requires.work c.reduce.ensures c.in-Ok.is

pub slice_bounds-reached-end : goal.slice_bounds-reached-end
slice_bounds-reached-end c = (reached (goal.at.slice_bounds-reached-end c).In-Ok).inside

pub slice_bounds-s-end : goal.slice_bounds-s-end
slice_bounds-s-end c = sym (length-take-le _ _ (reached (goal.at.slice_bounds-s-end c).In-Ok).inside)

pub report_run-requires : goal.report_run-requires
report_run-requires c =
    (omega arith, found-fits _ (reached (goal.at.report_run-requires c).In-Ok) c.requires.output)

pub report_run-requires-in-Unfinished : goal.report_run-requires-in-Unfinished
report_run-requires-in-Unfinished c =
    (omega arith, found-fits _ (reached (goal.at.report_run-requires-in-Unfinished c).In-Ok) c.requires.output)

pub returns-in-Finished : goal.returns-in-Finished
unfolding codes
returns-in-Finished c =
    finished_reported _ (rw c.in-Finished.is at (reached (goal.at.returns-in-Finished c).In-Ok)) c.report_run.ensures

pub returns-in-Unfinished : goal.returns-in-Unfinished
unfolding codes
returns-in-Unfinished c =
    unfinished_reported _ (rw c.in-Unfinished.is at (reached (goal.at.returns-in-Unfinished c).In-Ok))
    c.report_run-in-Unfinished.ensures

pub returns-in-Err : goal.returns-in-Err
returns-in-Err c =
    let asks = c.requires in
    let refused = refused_at _ _ _ _ _ asks.allowed (omega arith) asks.work c.reduce.ensures c.in-Err.is in
    refused_reported _ refused c.put_refusal.ensures
