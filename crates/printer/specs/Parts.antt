-- The text of a term as a part of another, and what the walk over a term asks and writes.
use Rattle.std.specs.Prelude.{ℕ, ◌+◌, ◌≤◌, ◌≡◌, Bool, true, false, List, length}
use Rattle.calculus.specs.Term.{Term, height}
use Rattle.calculus.specs.Bounds.{greatest_number}
use Rattle.calculus.specs.Characters.{bytes}
use Rattle.calculus.specs.Writing.{Layout, as_left, as_right, written, binder_text, text_of_variable}
use Rattle.calculus.proofs.Sizes.{size}
use Rattle.term.specs.Surveys.{Stands}
use Rattle.calculus.proofs.Putting.{Puts}
use Rattle.printer.specs.Pieces.{layout_of}
use Rattle.printer.specs.declared.pieces.Style.{Style}
use Rattle.printer.specs.declared.Part.{Part}
use Rattle.printer.specs.declared.Part.TheVariants.{Whole, Left, Right}
use Rattle.printer.specs.declared.Reached.{Reached}

-- whether an abstraction, and whether an application, is parenthesised as a part
abbrev pub groups_lam : Part → Bool
groups_lam Whole = false
groups_lam Left = true
groups_lam Right = true

abbrev pub groups_app : Part → Bool
groups_app Whole = false
groups_app Left = false
groups_app Right = true

abbrev pub as_part : {A : Type 0} → Layout A → Part → Term → List A → List A
as_part w Whole t xs = xs
as_part w Left t xs = as_left w t xs
as_part w Right t xs = as_right w t xs

-- the bytes of a term as a part of another, under d abstractions
unfoldable pub part_text : Style → (d : ℕ) → Part → Term → List ℕ
unfolding bytes written binder_text text_of_variable
part_text w d part t = bytes (as_part (layout_of w) part t (written (layout_of w) d t))

-- some term stands at an offset, no higher than the room, whose text ends at a place that can be counted
pub record Writable (w : Style) (s : List ℕ) (at d : ℕ) (part : Part) (from room : ℕ) : Type 0 where
  pub term : Term
  pub stands : Stands s at term
  pub low : height term ≤ room
  pub shallow : d + height term ≤ greatest_number
  pub countable : from + length (part_text w d part term) ≤ greatest_number

-- the text of whatever term stands at the offset is put, and the offset after the term is told
pub record Writes (w : Style) (s : List ℕ) (at d : ℕ) (part : Part) (before : List ℕ) (from : ℕ) (r : Reached)
    (after : List ℕ) : Type 0 where
  pub ends : (t : Term) → Stands s at t → r.next ≡ at + size t
  pub puts : (t : Term) → Stands s at t → Puts before from (part_text w d part t) r.to after
