-- `serving::read_full` meets its contract: what a read brings stands behind what came before.
use Rattle.std.proofs.Common.{rules}
use Rattle.serving.proofs.Filling.{filled_on}
use Rattle.serving.proofs.read_full.Goals as goal

pub loop-done-preserved : goal.loop-done-preserved
loop-done-preserved g c =
    let before = c.loop-done.invariant in
    let read = c.in_ok-count.ensures in
    (search rules, search rules, filled_on c.loop-done.buf c.read.new.buf c.loop-done.done c.in_ok-count.count before.1 read.bound.0 _ _ _ before.2 read.bytes.0)
