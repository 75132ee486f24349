-- `words::Cursor::next` meets its contract: white space is passed, and the notation decides how the word is read.
use Rattle.words.proofs.Telling.{next_de_bruijn, next_classic}
use Rattle.words.proofs.Cursor.next.Goals as goal

pub returns-in-DeBruijn : goal.returns-in-DeBruijn
returns-in-DeBruijn c =
    rw c.in-DeBruijn.is
    (next_de_bruijn c.over-here.ensures c.first_de_bruijn.ensures)

pub returns-in-Classic : goal.returns-in-Classic
returns-in-Classic c =
    rw c.in-Classic.is
    (next_classic c.over-here.ensures c.first_classic.ensures)
