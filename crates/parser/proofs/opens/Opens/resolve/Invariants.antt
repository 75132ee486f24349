-- `parser::opens::Opens::resolve` meets its contract: what is open is passed one by one, from the innermost.
use Rattle.std.specs.Prelude.{length}
use Rattle.words.specs.Places.{name_of}
use Rattle.parser.proofs.Meeting.{Looks}
use Rattle.parser.proofs.opens.Opens.resolve.Given as goal

abbrev pub invariant-loop-open : goal.invariant-loop-open
invariant-loop-open l =
    Looks l.text.bytes.now l.self (name_of l.text.bytes.now l.name) (length l.yielded) l.index
