-- `scan_words` meets its contract. The invariant: the words of the text are those ahead, after some that were read.
use mathlib.Core.Path.{refl}
use Rattle.words.proofs.Telling.{word_taken}
use Rattle.words.proofs.Scanning.{reached-start, reached-next, reached_end, next-inside, reached-invalid}
use Rattle.words.proofs.judging.scan_words.Goals as goal

pub loop-text-init : goal.loop-text-init
loop-text-init c = reached-start _ _

pub returns-in-End : goal.returns-in-End
returns-in-End c = reached_end c.loop-text.invariant c.next-step.ensures.0 c.args.text.clean refl c.in-End.is

pub invalid_at-requires : goal.invalid_at-requires
invalid_at-requires c = next-inside c.loop-text.invariant c.next-step.ensures.0 c.in-Invalid.is

pub returns-in-Invalid : goal.returns-in-Invalid
returns-in-Invalid c =
    reached-invalid c.loop-text.invariant c.next-step.ensures.0 c.in-Invalid.is c.args.text.clean c.invalid_at.ensures

pub loop-text-preserved : goal.loop-text-preserved
loop-text-preserved c =
    reached-next c.loop-text.invariant c.next-step.ensures.0
    (word_taken _ c.in_default.not-End c.in_default.not-Invalid)
