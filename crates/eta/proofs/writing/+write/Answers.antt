-- `eta::writing::write` meets its contract: at each kind it is a law of `Written`. The node's number falls at a call.
use mathlib.Core.Path.{sym}
use native.Mathlib.Omega.{arith}
use borrow.Author.Rules.{rules}
use Rattle.eta.proofs.Written.{variable-fits, at_variable}
use Rattle.eta.proofs.Written.{bound_asks, is_bound, is_zero, is_free, free_asks}
use Rattle.eta.proofs.Written.{binder_asks, body_below, body_asks, at_binder}
use Rattle.eta.proofs.Written.{application_asks, left_asks, right_asks, at_application}
use Rattle.eta.proofs.writing.+write.Goals as goal

-- A BOUND VARIABLE
pub offset_bounds-places-level : goal.offset_bounds-places-level
offset_bounds-places-level t c =
    let (inside, _) = bound_asks (sym c.in-Bound.ensures.read) c.requires in search rules

pub bounds-places-level : goal.bounds-places-level
bounds-places-level t c = (bound_asks (sym c.in-Bound.ensures.read) c.requires).0

pub overflow_sub-depth : goal.overflow_sub-depth
overflow_sub-depth t c = (bound_asks (sym c.in-Bound.ensures.read) c.requires).1

pub write_variable-requires : goal.write_variable-requires
write_variable-requires t c = variable-fits (is_bound (sym c.in-Bound.ensures.read)) c.requires

pub returns-in-Bound : goal.returns-in-Bound
returns-in-Bound t c = at_variable (is_bound (sym c.in-Bound.ensures.read)) c.write_variable.ensures

-- A FREE VARIABLE, or index 0
pub write_variable-requires-in-Free-eq0 : goal.write_variable-requires-in-Free-eq0
write_variable-requires-in-Free-eq0 t c =
    variable-fits (is_zero (sym c.in-Free-eq0.ensures.read) c.in-Free-eq0.field-0-test) c.requires

pub returns-in-Free-eq0 : goal.returns-in-Free-eq0
returns-in-Free-eq0 t c =
    at_variable (is_zero (sym c.in-Free-eq0.ensures.read) c.in-Free-eq0.field-0-test)
    c.write_variable-in-Free-eq0.ensures

pub overflow_add-number : goal.overflow_add-number
overflow_add-number t c =
    let low = free_asks (sym c.in-Free.ensures.read) c.in-Free.number-test.1 c.requires in search rules

pub write_variable-requires-in-Free : goal.write_variable-requires-in-Free
write_variable-requires-in-Free t c =
    variable-fits (is_free (sym c.in-Free.ensures.read) c.in-Free.number-test.1) c.requires

pub returns-in-Free : goal.returns-in-Free
returns-in-Free t c =
    at_variable (is_free (sym c.in-Free.ensures.read) c.in-Free.number-test.1) c.write_variable-in-Free.ensures

-- AN ABSTRACTION
pub bounds-out-at : goal.bounds-out-at
bounds-out-at t c = omega (arith, binder_asks (sym c.in-Abstraction.ensures.read) c.requires)

pub bounds-places-binder : goal.bounds-places-binder
bounds-places-binder t c = (binder_asks (sym c.in-Abstraction.ensures.read) c.requires).1

pub write-requires : goal.write-requires
write-requires t c =
    let is = sym c.in-Abstraction.ensures.read in
    let fewer = body_below is c.requires in
    (omega arith, body_asks is c.requires)

pub returns-in-Abstraction : goal.returns-in-Abstraction
returns-in-Abstraction t c =
    let is = sym c.in-Abstraction.ensures.read in at_binder is (binder_asks is c.requires).1 c.write.ensures

-- AN APPLICATION
pub bounds-out-at-in-Application : goal.bounds-out-at-in-Application
bounds-out-at-in-Application t c = omega (arith, application_asks (sym c.in-Application.ensures.read) c.requires)

pub write-next-requires : goal.write-next-requires
write-next-requires t c =
    let is = sym c.in-Application.ensures.read in
    let (_, fewer, _) = application_asks is c.requires in
    (omega arith, left_asks is c.requires)

pub write-requires-in-Application : goal.write-requires-in-Application
write-requires-in-Application t c =
    let is = sym c.in-Application.ensures.read in
    let (_, _, fewer) = application_asks is c.requires in
    (omega arith, right_asks is c.write-next.ensures c.requires)

pub returns-in-Application : goal.returns-in-Application
returns-in-Application t c =
    at_application (sym c.in-Application.ensures.read) c.write-next.ensures c.write-in-Application.ensures
