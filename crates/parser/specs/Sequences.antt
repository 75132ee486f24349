-- What reading a sequence, and a group, asks and gives.
use Rattle.std.specs.Prelude.{ℕ, ◌+◌, ◌*◌, ◌≤◌, ◌<◌, ◌≡◌, Bool, false, List, [], ◌∷◌, length, Option, Result, Ok, Err}
use Rattle.std.proofs.Math.Option.{none}
use Rattle.calculus.specs.Bounds.{most_open}
use Rattle.calculus.specs.Refusal.{Answer, refused}
use Rattle.calculus.specs.Reading.{Notation}
use Rattle.calculus.specs.Term.{Term}
use Rattle.calculus.specs.Words.{Word}
use Rattle.calculus.specs.Walk.{Open}
use Rattle.calculus.specs.Grammar.{Waits}
use Rattle.term.specs.Answers.{refusal_of}
use Rattle.term.specs.declared.Refusal.{Refusal}
use Rattle.term.specs.declared.Refusal.TheVariants.{TooHigh}
use Rattle.words.specs.Places.{Placed}
use Rattle.words.specs.declared.Cursor.{Cursor}
use Rattle.parser.specs.declared.tokens.Binder.{Binder}
use Rattle.nodes.specs.Store.{Same}
use Rattle.parser.specs.Opens.{open_of, opens, Opened}
use Rattle.parser.specs.States.{State, reading, go, unless_void, ended}
use Rattle.parser.specs.Tokens.{words_on, Valid, Onward}
use Rattle.parser.specs.Building.{Means, Roomy}
use Rattle.parser.specs.declared.building.Built.{Built}
use Rattle.parser.specs.declared.sequences.Went.{Went}

-- a place in a text, what is open there, and the store
pub record Ready (n : Notation) (s : List ℕ) (stack : List Binder) (store : List ℕ) (cap : ℕ) (from : Cursor)
    (base : ℕ) : Type 0 where
  pub placed : Placed s from
  pub valid : Valid n s from.at
  pub opened : Opened s stack
  pub roomy : Roomy store cap base
  pub few : base ≤ 2 * from.at

-- a place that was reached: what was read there stands for a state, and at most two nodes were read for each byte
pub record Reaches (n : Notation) (s : List ℕ) (cap : ℕ) (from : Cursor) (base : ℕ) (here : Cursor)
    (store : List ℕ) (read : Built) (st : State) : Type 0 where
  pub step : Onward n s from here
  pub spent : read.used + 2 * from.at ≤ base + 2 * here.at
  pub means : Means store cap base read.used read.part st

-- reading on from a place with so much open, whether or not something was empty before
abbrev pub from_here : List Open → List Word → Bool → State → List Waits → Answer Term
from_here os ws failed st ps = go os ws (unless_void failed st) ps

-- a sequence comes to its end: reading on from where it began is reading on from there
pub record Ends (n : Notation) (s : List ℕ) (os : List Open) (cap : ℕ) (from : Cursor) (base : ℕ) (store : List ℕ)
    (read : Built) (here : Cursor) (closed : Bool) : Type 0 where
  pub state : State
  pub reaches : Reaches n s cap from base here store read state
  pub last : closed ≡ false → words_on n s here.at ≡ []
  pub goes : (failed : Bool) (ps : List Waits) → from_here os (words_on n s from.at) failed (reading none) ps
      ≡ from_here os (ended closed (words_on n s here.at)) failed state ps

-- or to a word that is refused, whatever comes after
pub data Comes (n : Notation) (s : List ℕ) (os : List Open) (cap : ℕ) (from : Cursor) (base : ℕ) (store : List ℕ) :
    Result Went Refusal → Type 0 where
  to_its_end : {went : Went} → Ends n s os cap from base store went.read went.here went.closed
      → Comes n s os cap from base store (Ok went)
  to_a_refusal : {e : Refusal}
      → ((failed : Bool) (ps : List Waits) → from_here os (words_on n s from.at) failed (reading none) ps
      ≡ refused (refusal_of e))
      → Comes n s os cap from base store (Err e)

-- what was open, and the nodes made before, stay
pub record Reads (n : Notation) (s : List ℕ) (stack : List Binder) (store : List ℕ) (cap : ℕ) (from : Cursor)
    (base : ℕ) (r : Result Went Refusal) (stack' : List Binder) (store' : List ℕ) : Type 0 where
  pub comes : Comes n s (opens s stack) cap from base store' r
  pub kept : stack' ≡ stack
  pub same : Same store store' base

-- with one more open, or 7
pub data Enters (n : Notation) (s : List ℕ) (os : List Open) (opening : Option Binder) (cap : ℕ)
    (from : Cursor) (base : ℕ) (store : List ℕ) : Result Went Refusal → Type 0 where
  no_more : most_open ≤ length os → Enters n s os opening cap from base store (Err TooHigh)
  one_more : {r : Result Went Refusal} → length os < most_open
      → Comes n s (open_of s opening ∷ os) cap from base store r
      → Enters n s os opening cap from base store r

pub record Groups (n : Notation) (s : List ℕ) (stack : List Binder) (opening : Option Binder)
    (store : List ℕ) (cap : ℕ) (from : Cursor) (base : ℕ) (r : Result Went Refusal) (stack' : List Binder)
    (store' : List ℕ) : Type 0 where
  pub enters : Enters n s (opens s stack) opening cap from base store' r
  pub kept : stack' ≡ stack
  pub same : Same store store' base
