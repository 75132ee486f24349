-- What the functions between the first line and the output ask and promise, which no other crate sees.
use Rattle.std.specs.Prelude.{ℕ, ◌+◌, ◌*◌, ◌≤◌, ◌≡◌, true, List, ◌++◌, length}
use Rattle.calculus.specs.Term.{Term}
use Rattle.calculus.specs.Bounds.{room_per_node, program_cap}
use Rattle.calculus.specs.Refusal.{given}
use Rattle.calculus.specs.Reading.{Notation}
use Rattle.calculus.specs.Writing.{write_text}
use Rattle.calculus.specs.Outcomes.{checked, limit_allowed}
use Rattle.calculus.specs.Program.{line, term_line}
use Rattle.calculus.proofs.Putting.{Puts}

-- the bytes of the longest word of a line, and of a line: the word, a space, seven digits and a line feed
abbrev pub most_word : ℕ
most_word = 10

abbrev pub most_line : ℕ
most_line = most_word + 9

-- the bytes of a text within the cap: 20 for each node
abbrev pub most_term : ℕ
most_term = 20 * program_cap

-- the bytes that the program may have to write: a line, and a text with a line feed
abbrev pub most_output : ℕ
most_output = most_line + most_term + 1

-- a limit within its bounds, the work room that the cap asks for, and room for all that may have to be written
pub record Workable (limit : ℕ) (room out : List ℕ) : Type 0 where
  pub allowed : limit_allowed limit ≡ true
  pub work : room_per_node * program_cap ≤ length room
  pub output : most_output ≤ length out

-- bytes that are a term within the cap, and room for its text from a place on
pub record Printable (s : List ℕ) (to : ℕ) (out : List ℕ) : Type 0 where
  pub term : Term
  pub passes : checked program_cap s ≡ given term
  pub room : to + most_term ≤ length out

-- its text, whatever term the bytes are
abbrev pub Prints : Notation → (s out : List ℕ) → (to r : ℕ) → (after : List ℕ) → Type 0
Prints n s out to r after = (t : Term) → checked program_cap s ≡ given t → Puts out to (write_text n t) r after

-- the two lines of a run that reached a term
abbrev pub Reports : (word : List ℕ) (number : ℕ) → Notation → (s out : List ℕ) → ℕ → (after : List ℕ) → Type 0
Reports word number n s out r after =
    (t : Term) → checked program_cap s ≡ given t → Puts out 0 (line word number ++ term_line n t) r after
