-- The words ahead of a place in a text.
use Rattle.std.specs.Prelude.{ℕ, List, length}
use Rattle.calculus.specs.Characters.{characters}
use Rattle.calculus.specs.Refusal.{Answer}
use Rattle.calculus.specs.Words.{Word, invalid_in, words_from}
use Rattle.calculus.specs.Reading.{Notation, next}
use Rattle.words.specs.Places.{remains}

-- from an offset on, in as many steps as characters
unfoldable pub words_at : Notation → List ℕ → ℕ → Answer (List Word)
unfolding words_from invalid_in remains
words_at n s at = words_from (next n) (invalid_in (characters s)) (length (remains s at)) (remains s at)
