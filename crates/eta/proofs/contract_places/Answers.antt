-- `eta::contract_places` meets its contract: the term is named, shrunk and written.
use mathlib.Core.Path.{refl, sym, ap, ◌∙◌}
use native.Mathlib.Omega.{arith}
use Rattle.eta.proofs.Answering.{load_asks, some_read, shrink_asks, write_asks, at_end, by_left}
use Rattle.eta.proofs.contract_places.Goals as goal
use Rattle.eta.proofs.contract_places.Goals.{then-done, else-done}

pub load-read-requires : goal.load-read-requires
load-read-requires c =
    load_asks c.requires.0 c.requires.1 _ refl

pub overflow_sub-used : goal.overflow_sub-used
overflow_sub-used c =
    let some = some_read c.requires.0 c.requires.1 refl c.load-read.ensures in omega arith

pub shrink-done-requires : goal.shrink-done-requires
shrink-done-requires c =
    shrink_asks c.requires.0 c.requires.1 refl c.load-read.ensures

pub write-length-requires : goal.write-length-requires
write-length-requires c =
    write_asks c.requires.0 c.requires.1 refl c.load-read.ensures _ c.shrink-done.ensures

pub returns : goal.returns
returns c =
    at_end c.requires.0 c.requires.1 refl c.load-read.ensures _ c.shrink-done.ensures c.write-length.ensures
    (elim c.if-done.branch [
      | then-done w ↦ w.end-is ∙ sym (ap by_left w.if-done.true)
      | else-done w ↦ w.end-is ∙ sym (ap by_left w.if-done.false)
    ])
