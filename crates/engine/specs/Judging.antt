-- The refusals of a next term, told of the part in which the step lies.
use Rattle.std.specs.Prelude.{ℕ, ◌+◌, leb}
use Rattle.std.proofs.Math.Option.{Option}
use Rattle.calculus.specs.Term.{Term, nodes, height, greatest_index}
use Rattle.calculus.specs.Bounds.{most_height, greatest_number}
use Rattle.calculus.specs.Refusal.{Refusal, Answer, ◌then◌, kept_if, too_high, too_many_nodes, index_too_great}
use Rattle.calculus.specs.Judging.{refusal_in}
use Rattle.engine.specs.declared.Stop.{Stop}
use Rattle.engine.specs.declared.Stop.TheVariants.{TooHigh, TooManyNodes, IndexTooGreat}

-- a part that lies so deep in the whole term, and may have so many nodes
unfoldable pub part_within : (depth most : ℕ) → Term → Answer Term
unfolding greatest_index height nodes
part_within depth most t =
    kept_if (leb (greatest_index t) greatest_number) index_too_great t then
    (λ u. kept_if (leb (depth + height u) most_height) too_high u then kept_if (leb (nodes u) most) too_many_nodes)

abbrev pub judge_at : (depth most : ℕ) → Term → Option Refusal
judge_at depth most t = refusal_in (part_within depth most t)

-- the refusals of a next term as reasons to stop
pub data Tells : Refusal → Stop → Type 0 where
  tells_high : Tells too_high TooHigh
  tells_many : Tells too_many_nodes TooManyNodes
  tells_great : Tells index_too_great IndexTooGreat
