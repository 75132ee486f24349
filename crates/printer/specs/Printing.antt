-- What the functions between the walk and `print` find, for whatever term the bytes are.
use Rattle.std.specs.Prelude.{ℕ, ◌≤◌, ◌≡◌, cond, List, leb, length, Result, Ok, Err}
use Rattle.calculus.specs.Term.{Term, nodes, height}
use Rattle.calculus.specs.Bounds.{most_nodes, most_height}
use Rattle.calculus.specs.Queries.{max_depth}
use Rattle.calculus.specs.Writing.{write_text}
use Rattle.calculus.specs.Outcomes.{stored, if_it_fits}
use Rattle.term.specs.Answers.{told}
use Rattle.term.specs.Notations.{notation_of}
use Rattle.term.specs.Surveys.{Stands}
use Rattle.term.specs.declared.Refusal.{Refusal}
use Rattle.term.specs.declared.Refusal.TheVariants.{OutputTooShort}
use Rattle.printer.specs.Parts.{part_text}
use Rattle.printer.specs.declared.pieces.Style.{Style}
use Rattle.printer.specs.declared.Part.TheVariants.{Whole}

-- the style is that of a term, by its max_depth, and there is plenty of room for its text
pub record StyleOf (w : Style) (plenty : ℕ) (t : Term) : Type 0 where
  pub deep : w.most ≡ max_depth t
  pub short : length (write_text (notation_of w.notation) t) ≤ plenty

-- the bytes are those of one term within the bounds, and the style and the room are the term's
pub record Printable (w : Style) (plenty : ℕ) (s : List ℕ) : Type 0 where
  pub term : Term
  pub stands : Stands s 0 term
  pub style : StyleOf w plenty term
  pub low : height term ≤ most_height
  pub few : nodes term ≤ most_nodes

-- the length of the text of whatever term the bytes are
pub record Measures (w : Style) (s : List ℕ) (r : ℕ) : Type 0 where
  pub measured : (t : Term) → Stands s 0 t → r ≡ length (part_text w 0 Whole t)

-- whether a text fits into so much room
abbrev pub fit_of : ℕ → List ℕ → Result (Unit {0}) Refusal
fit_of room text = cond (leb (length text) room) (Ok tt) (Err (OutputTooShort (length text)))

pub record Fitting (w : Style) (plenty : ℕ) (s : List ℕ) (room : ℕ) (r : Result (Unit {0}) Refusal) : Type 0 where
  pub fitting : (t : Term) → Stands s 0 t → StyleOf w plenty t
      → r ≡ fit_of room (write_text (notation_of w.notation) t)

-- what is answered and left for whatever term the bytes are: 13, or the text
pub record Prints (w : Style) (plenty : ℕ) (s before : List ℕ) (r : Result ℕ Refusal) (after : List ℕ) : Type 0 where
  pub printed : (t : Term) → Stands s 0 t → StyleOf w plenty t
      → (told r, after) ≡ stored (if_it_fits before (write_text (notation_of w.notation) t)) before
