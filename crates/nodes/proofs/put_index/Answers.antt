-- `nodes::put_index` meets its contract: the number whose bytes are put is the index, also one that a mask leaves whole.
use native.Mathlib.Omega.{arith}
use Rattle.std.proofs.Common.{ap, ◌∙◌}
use Rattle.std.specs.Int.{to_le_bytes, w64}
use Rattle.std.proofs.lemmas.Grind.{and_numeral}
use Rattle.nodes.proofs.Coding.{put_eight}
use Rattle.nodes.proofs.put_index.Goals as goal

pub returns : goal.returns
returns c =
    put_eight c.args.out.now c.args.at c.args.index c.requires c.ranges.index.fits
    (c.copy_from_slice.ensures.after ∙ c.to_le_bytes.ensures ∙ ap (to_le_bytes w64) (grind (arith, and_numeral)))
