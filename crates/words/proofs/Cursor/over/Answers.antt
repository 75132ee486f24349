-- `words::Cursor::over` meets its contract. The invariant: every character passed is one that the run may hold.
use mathlib.Core.Path.{sym, ◌∙◌}
use Rattle.words.proofs.Passing.{passing_on}
use Rattle.words.proofs.Passing.{passed-stop, passed_end}
use Rattle.words.proofs.Cursor.over.Goals as goal

pub returns-then-not-may_hold : goal.returns-then-not-may_hold
returns-then-not-may_hold c =
    let passing = c.loop-here.invariant in
    passed-stop passing c.loop-here-test.true (sym c.may_hold.ensures ∙ c.if-not-may_hold.true)

pub loop-here-preserved : goal.loop-here-preserved
loop-here-preserved c =
    let passing = c.loop-here.invariant in
    let holds = sym c.may_hold.ensures ∙ c.if-not-may_hold.false in
    passing_on passing c.loop-here-test.true holds c.past-here.ensures

pub returns : goal.returns
returns c = passed_end c.loop-here.invariant c.loop-here-test.false
