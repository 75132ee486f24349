-- `replay::main` has its lengths by a lemma: counting them out takes time and gigabytes.
use Rattle.std.proofs.Common.{sym, ℕ}
use lib.ListN.{length-replicate}
use Rattle.replay.proofs.main.Goals as goal

pub slice_bounds-answer_input-end : goal.slice_bounds-answer_input-end
slice_bounds-answer_input-end c = sym (length-replicate {0} {A = ℕ} 393216 0)

pub slice_bounds-answer_input-end-2 : goal.slice_bounds-answer_input-end-2
slice_bounds-answer_input-end-2 c = sym (length-replicate {0} {A = ℕ} 2097280 0)

pub slice_bounds-answer_input-end-3 : goal.slice_bounds-answer_input-end-3
slice_bounds-answer_input-end-3 c = sym (length-replicate {0} {A = ℕ} 589829 0)

pub slice_bounds-answer_input-end-4 : goal.slice_bounds-answer_input-end-4
slice_bounds-answer_input-end-4 c = sym (length-replicate {0} {A = ℕ} 524293 0)
