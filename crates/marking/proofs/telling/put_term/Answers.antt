-- `marking::telling::put_term` meets its contract: the text is printed into the part of the output from the place on.
use native.Mathlib.Omega.{arith}
use Rattle.marking.proofs.Texts.{inside, text-put, not-refused}
use Rattle.marking.proofs.telling.put_term.Goals as goal

pub overflow_add-result : goal.overflow_add-result
overflow_add-result c =
    let fits = inside _ c.requires c.print.ensures c.in-Ok.is in
    omega arith

pub returns-in-Ok : goal.returns-in-Ok
returns-in-Ok c =
    text-put _ c.requires c.print.ensures c.in-Ok.is

pub returns-in-Err : goal.returns-in-Err
returns-in-Err c =
    absurd (not-refused _ c.requires c.print.ensures c.in-Err.is)
