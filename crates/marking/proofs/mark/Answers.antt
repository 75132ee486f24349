-- `marking::mark` meets its contract: 3, then 1 for a malformed first line, then what its job comes to.
use Rattle.std.proofs.Common.{arith}
use Rattle.marking.specs.Asking.{job_of}
use Rattle.marking.proofs.FirstLine.{there, missing}
use Rattle.marking.proofs.Programs.{malformed, well_formed, written}
use Rattle.marking.proofs.mark.Goals as goal

pub returns-in-None : goal.returns-in-None
returns-in-None c =
    let input = c.args.input.now in
    let both = written input (malformed input (omega arith) (missing job_of c.first_line.ensures c.in-None.is)) (omega arith) c.put_refusal-in-None.ensures in
    record { lays = both.0; prefix_len = both.1 }

pub returns-in-Some : goal.returns-in-Some
returns-in-Some c =
    let input = c.args.input.now in
    let both = written input (well_formed input (omega arith) (there job_of c.first_line.ensures c.in-Some.is)) (omega arith) c.do_job.ensures in
    record { lays = both.0; prefix_len = both.1 }
