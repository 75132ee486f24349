-- `words::Cursor::past` meets its contract: CE begins the sign, of two bytes.
use borrow.Author.Tests.{ne_eqb}
use Rattle.words.proofs.Passing.{past-told}
use Rattle.words.proofs.Cursor.past.Goals as goal

pub returns-then-text-at : goal.returns-then-text-at
returns-then-text-at c = past-told (c.args.text.clean, c.requires.0, c.requires.1) (rw c.if-text-at.true)

pub returns-else-text-at : goal.returns-else-text-at
returns-else-text-at c = past-told (c.args.text.clean, c.requires.0, c.requires.1) (rw (ne_eqb _ 206 c.if-text-at.false))
