-- What the code's next word is.
use Rattle.std.specs.Prelude.{ℕ, ◌≤◌, ◌<◌, ◌≡◌, List, length}
use Rattle.calculus.specs.Words as calculus
use Rattle.words.specs.Places.{remains, Placed, name_of, Inside}
use Rattle.words.specs.declared.Cursor.{Cursor}
use Rattle.words.specs.declared.Step.{Step}
use Rattle.words.specs.declared.Word.{Word}
use Rattle.words.specs.declared.Word.TheVariants.{End, Binder, Left, Right, Number, Named, Invalid}

-- the next word that the code's word tells, before what remains
abbrev pub told : List ℕ → Word → List ℕ → calculus.Next
told s End cs = calculus.ended
told s (Binder x) cs = calculus.word (calculus.binder (name_of s x)) cs
told s Left cs = calculus.word calculus.opening cs
told s Right cs = calculus.word calculus.closing cs
told s (Number i) cs = calculus.word (calculus.number i) cs
told s (Named x) cs = calculus.word (calculus.name (name_of s x)) cs
told s Invalid cs = calculus.invalid cs

-- the names in a word are places in the text; a binder's is not at its start
abbrev pub Names : List ℕ → Word → Type 0
Names s End = Unit {0}
Names s (Binder x) = (0 < x.from) × Inside s x
Names s Left = Unit {0}
Names s Right = Unit {0}
Names s (Number i) = Unit {0}
Names s (Named x) = Inside s x
Names s Invalid = Unit {0}

-- a word takes one byte or more
abbrev pub taken : Word → ℕ
taken End = 0
taken (Binder x) = 1
taken Left = 1
taken Right = 1
taken (Number i) = 1
taken (Named x) = 1
taken Invalid = 0

-- the end is told at the end of the text
abbrev pub Last : List ℕ → Step → Type 0
Last s r = r.word ≡ End → length s ≤ r.next.at

-- a step from a place tells what is expected there
pub record Tells (s : List ℕ) (from : Cursor) (expected : calculus.Next) (r : Step) : Type 0 where
  pub placed : Placed s r.next
  pub forward : from.at ≤ r.next.at
  pub names : Names s r.word
  pub tells : expected ≡ told s r.word (remains s r.next.at)
