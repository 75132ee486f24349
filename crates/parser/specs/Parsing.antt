-- What the answer at the end of a text is, and what saving it asks and gives.
use Rattle.std.specs.Prelude.{ℕ, ◌≡◌, List, [], Result}
use Rattle.calculus.specs.Refusal.{Answer, ◌then◌}
use Rattle.calculus.specs.Term.{Term}
use Rattle.calculus.specs.Judging.{within}
use Rattle.calculus.specs.Outcomes.{stored, coded}
use Rattle.nodes.specs.Lending.{Lent}
use Rattle.term.specs.Answers.{told}
use Rattle.term.specs.declared.Refusal.{Refusal}
use Rattle.parser.specs.States.{State, parsed_on}
use Rattle.parser.specs.Building.{Means}
use Rattle.parser.specs.declared.building.Built.{Built}

-- the answer, and what it leaves in the output, are those of a term that is given or refused
abbrev pub Stores : (reads : Answer Term) (before : List ℕ) (r : Result ℕ Refusal) (after : List ℕ) → Type 0
Stores reads before r after = (told r, after) ≡ stored (reads then coded) before

-- what was read is a term, or 8; then 7 and 9
abbrev pub at_the_end : (cap : ℕ) → State → Answer Term
at_the_end cap st = parsed_on [] st [] then within cap

-- what was read stands for some state
pub record Storable (store : List ℕ) (cap : ℕ) (read : Built) (out : List ℕ) : Type 0 where
  pub lent : Lent cap out store
  pub state : State
  pub means : Means store cap 0 read.used read.part state

-- the answer at the end of the text, whatever state it stands for
pub record Saves (store : List ℕ) (cap : ℕ) (read : Built) (before : List ℕ) (r : Result ℕ Refusal) (after : List ℕ) :
    Type 0 where
  pub saves : (st : State) → Means store cap 0 read.used read.part st → Stores (at_the_end cap st) before r after
