-- `printer::pieces::put_variable` meets its contract in either notation.
use Rattle.calculus.specs.Writing.{text_of_variable}
use Rattle.printer.proofs.pieces.put_variable.Goals as goal

pub put_index-requires : goal.put_index-requires
unfolding text_of_variable
put_index-requires c =
    rw c.in-DeBruijn.is at c.requires

pub put_named-requires : goal.put_named-requires
unfolding text_of_variable
put_named-requires c =
    rw c.in-Classic.is at c.requires

pub returns-in-DeBruijn : goal.returns-in-DeBruijn
unfolding text_of_variable
returns-in-DeBruijn c =
    rw c.in-DeBruijn.is c.put_index.ensures

pub returns-in-Classic : goal.returns-in-Classic
unfolding text_of_variable
returns-in-Classic c =
    rw c.in-Classic.is c.put_named.ensures
