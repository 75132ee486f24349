-- `marking::do_job` meets its contract: 1 for the limit, then the text's refusal or the run of its term.
use mathlib.Core.Path.{◌≡◌, sym, ◌∙◌}
use mathlib.Core.Bool.{true}
use native.Mathlib.Omega.{arith}
use lib.Seq.{length-take-le}
use Rattle.calculus.specs.Bounds.{program_cap}
use Rattle.calculus.specs.Reading.{read_text}
use Rattle.calculus.specs.Outcomes.{limit_allowed}
use Rattle.term.specs.Notations.{notation_of}
use Rattle.marking.proofs.Jobs.{Read, given_at, refused_at, limit-refused, text-refused, text-run}
use Rattle.marking.proofs.do_job.Goals as goal
use Rattle.marking.proofs.do_job.Goals.{Else-not-allowed, In-Ok}

-- the limit is within its bounds
in_bounds : (c : Else-not-allowed) → limit_allowed c.args.job.limit ≡ true
in_bounds c = sym c.allowed.ensures ∙ c.if-not-allowed.false

-- the term that was read
read : (c : In-Ok) → let job = c.args.job in
    Read (read_text (notation_of job.notation) program_cap job.text.now) c.in-Ok.length
    c.parse.new.out
read c =
    given_at _ _ _ _ (omega arith) (omega arith) c.parse.ensures c.in-Ok.is

pub returns-then-not-allowed : goal.returns-then-not-allowed
returns-then-not-allowed c =
    limit-refused _ _ _ _ (sym c.allowed.ensures ∙ c.if-not-allowed.true)
    c.put_refusal.ensures

pub slice_bounds-coded-end : goal.slice_bounds-coded-end
slice_bounds-coded-end c = (read (goal.at.slice_bounds-coded-end c).In-Ok).at_start.inside

pub slice_bounds-reduce-end : goal.slice_bounds-reduce-end
slice_bounds-reduce-end c = sym (length-take-le _ _ (read (goal.at.slice_bounds-reduce-end c).In-Ok).at_start.inside)

pub returns-in-Ok : goal.returns-in-Ok
returns-in-Ok c =
    let met = goal.at.returns-in-Ok c in
    text-run _ _ _ _ (in_bounds met.Else-not-allowed) (read met.In-Ok) c.reduce.ensures

pub returns-in-Err : goal.returns-in-Err
returns-in-Err c =
    let reads = refused_at _ _ _ _ (omega arith) (omega arith) c.parse.ensures c.in-Err.is in
    text-refused _ _ _ _ (in_bounds (goal.at.returns-in-Err c).Else-not-allowed) reads c.put_refusal-in-Err.ensures
