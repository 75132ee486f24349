-- What a whole term written into a slice comes to, and what a writer is then.
use Rattle.std.specs.Prelude.{ℕ, ◌≡◌, List}
use denote.Ref.{at_last}
use Rattle.calculus.specs.Term.{Term}
use Rattle.calculus.proofs.Putting.{Puts}
use Rattle.term.specs.Surveys.{Stands}
use Rattle.printer.specs.Parts.{part_text}
use Rattle.printer.specs.declared.pieces.Style.{Style}
use Rattle.printer.specs.declared.Part.TheVariants.{Whole}
use Rattle.printer.specs.declared.writer.Writer.{Writer}

-- the text of whatever term the bytes are is put at a place, and the place after it is told
pub record WritesWhole (w : Style) (s before : List ℕ) (from to : ℕ) (after : List ℕ) : Type 0 where
  pub puts : (t : Term) → Stands s 0 t → Puts before from (part_text w 0 Whole t) to after

-- a writer after another: the same borrow, with the text in its slice, and the place after it
pub record WritesOn (w : Style) (s : List ℕ) (first then : Writer) : Type 0 where
  pub same : then.out ≡ at_last first.out then.out.now
  pub writes : WritesWhole w s first.out.now first.place then.place then.out.now
