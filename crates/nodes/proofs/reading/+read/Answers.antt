-- `nodes::reading::read` meets its contract: a part that was read is a node, and the whole is made of its parts.
use Prim.Native.Nat.{ℕ}
use native.Mathlib.Omega.{arith}
use Rattle.calculus.proofs.Coding.{AllBytes}
use Rattle.term.proofs.Heads.{told_application}
use Rattle.nodes.proofs.Taking.{at_variable, Begun, abstraction_asks, at_abstraction, application_asks, at_application}
use Rattle.nodes.proofs.reading.+read.Goals as goal
use Rattle.nodes.proofs.reading.+read.Goals.{In-Variable, In_ok-next-in-Abstraction, In_ok-middle-in-Application}

bytes : (t : ℕ) (c : In-Variable t) → AllBytes c.args.s.now
bytes t c i = (c.type_inv.s i).fits

pub returns-in-Variable : goal.returns-in-Variable
returns-in-Variable t c =
    let v = (goal.at.returns-in-Variable t c).In-Variable in
    let (next, same, new) = c.make_variable.ensures in
    at_variable c.requires c.if-cap-used.false (omega (arith, c.if-height-eq0.false)) (bytes t v) (grind arith) next same new

-- what is known once the only part was read, or the first
body_begun : (t : ℕ) (c : In_ok-next-in-Abstraction t) → let a = c.args in
    Begun a.s.now a.at a.room.now a.used.now a.cap a.height c.in_ok-next-in-Abstraction.next c.read.new.used c.read.new.room
body_begun t c = record {
  asked = c.requires;
  more = c.if-cap-used.false;
  some = omega (arith, c.if-height-eq0.false);
  reads = rw c.in_ok-next-in-Abstraction.was at c.read.ensures;
}

left_begun : (t : ℕ) (c : In_ok-middle-in-Application t) → let a = c.args in
    Begun a.s.now a.at a.room.now a.used.now a.cap a.height c.in_ok-middle-in-Application.middle c.read-in-Application.new.used c.read-in-Application.new.room
left_begun t c = record {
  asked = c.requires;
  more = c.if-cap-used.false;
  some = omega (arith, c.if-height-eq0.false);
  reads = rw c.in_ok-middle-in-Application.was at c.read-in-Application.ensures;
}

pub make_abstraction-requires : goal.make_abstraction-requires
make_abstraction-requires t c =
    abstraction_asks (body_begun t (goal.at.make_abstraction-requires t c).In_ok-next-in-Abstraction)

pub make_application-requires : goal.make_application-requires
make_application-requires t c =
    application_asks (left_begun t (goal.at.make_application-requires t c).In_ok-middle-in-Application)
    (rw c.in_ok-next-in-Application.was at c.read-in-Application-2.ensures)

pub returns-in_ok-next-in-Abstraction : goal.returns-in_ok-next-in-Abstraction
returns-in_ok-next-in-Abstraction t c =
    let (next, same, new) = c.make_abstraction.ensures in
    at_abstraction (body_begun t (goal.at.returns-in_ok-next-in-Abstraction t c).In_ok-next-in-Abstraction)
    (grind arith) next same new

-- `head_at` tells the head, or a test of the byte itself
pub returns-in_ok-next-in-Application : goal.returns-in_ok-next-in-Application
returns-in_ok-next-in-Application t c =
    let (next, same, new) = c.make_application.ensures in
    at_application (left_begun t (goal.at.returns-in_ok-next-in-Application t c).In_ok-middle-in-Application)
    (rw c.in_ok-next-in-Application.was at c.read-in-Application-2.ensures) (grind (arith, told_application)) next same new
