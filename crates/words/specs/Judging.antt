-- What the passes over a whole text find.
use Rattle.std.specs.Prelude.{ℕ, ◌≡◌, List, Option, Some, None, Result, Ok, Err}
use Rattle.std.proofs.Math.Option.{some}
use Rattle.calculus.specs.Refusal.{Answer, given, refused, ◌then◌}
use Rattle.calculus.specs.Characters.{characters, first_outside}
use Rattle.calculus.specs.Words.{Word, words}
use Rattle.calculus.specs.Reading.{Notation, next, characters_of}
use Rattle.term.specs.Answers.{refusal_of}
use Rattle.words.specs.Places.{Clean}
use Rattle.term.specs.declared.Refusal.{Refusal}
use Rattle.words.specs.declared.text.Text.{Text}

-- whether all characters are in the domain
pub data Scans (s : List ℕ) : Option ℕ → Type 0 where
  is_inside : Clean s → Scans s None
  is_outside : {offset : ℕ} → first_outside 0 (characters s) ≡ some offset → Scans s (Some offset)

-- an answer of words is given for a text that passes, which is handed out, and the refusal for any other
pub data Passes (s : List ℕ) (answer : Answer (List Word)) : Result Text Refusal → Type 0 where
  is_fine : {ws : List Word} {text : Text} → Clean s → text.bytes.now ≡ s → answer ≡ given ws
      → Passes s answer (Ok text)
  is_refused : {e : Refusal} → answer ≡ refused (refusal_of e) → Passes s answer (Err e)

-- whether all words are valid
abbrev pub Worded : Notation → List ℕ → Result Text Refusal → Type 0
Worded n s r = Passes s (words (next n) (characters s)) r

-- the length, the domain, then the words
abbrev pub Judges : Notation → List ℕ → Result Text Refusal → Type 0
Judges n s r = Passes s (characters_of s then words (next n)) r
