-- The words ahead of a place in a text: what its next word tells of them.
use Prim.Native.Nat.{ℕ, suc, ◌+◌, ◌<◌}
use mathlib.Core.Path.{◌≡◌, refl, ap}
use mathlib.Core.List.{List, [], ◌∷◌}
use native.Mathlib.Omega.{arith}
use native.Mathlib.Decide.{dec_lt}
use lib.ListN.{length, get_or}
use Rattle.calculus.specs.Characters.{characters}
use Rattle.calculus.specs.Refusal.{invalid_character, given, refused, ◌then◌}
use Rattle.calculus.specs.Words.{Word, ended, word, invalid, invalid_in, on_next, words_from, words}
use Rattle.calculus.specs.Reading.{Notation, next}
use Rattle.calculus.proofs.Moves.{Moves, to_an_invalid, moves, next_shorter, words-enough}
use Rattle.words.specs.Places.{Clean, Placed, remains, char_of, bytes_of}
use Rattle.words.specs.Ahead.{words_at}
use Rattle.words.specs.declared.Cursor.{Cursor}
use Rattle.words.proofs.Remaining.{remains_end, remains_char}

-- from the start of the text on
pub ahead-start : (n : Notation) (s : List ℕ) → words_at n s 0 ≡ words (next n) (characters s)
unfolding words_at words
ahead-start n s = refl

invalid-some : {all cs : List ℕ} → Moves all (invalid cs) → 0 < length cs
invalid-some (to_an_invalid t) = omega arith

-- the place of an invalid character, by the characters that remain there
counted-place : (text : List ℕ) (c : ℕ) (cs : List ℕ) (place : ℕ) → place + length (c ∷ cs) ≡ length text
    → invalid_in text (c ∷ cs) ≡ invalid_character place c
unfolding invalid_in
counted-place text c cs place total = ap (λ k. invalid_character k c) (omega (arith, total))

module _ (n : Notation) (s : List ℕ) (at : ℕ) where
  -- by the next word, in one step more
  one_ahead : words_at n s at
      ≡ on_next (invalid_in (characters s)) (next n (remains s at))
      (words_from (next n) (invalid_in (characters s)) (length (remains s at)))
  unfolding words_at words_from
  one_ahead =
      let most : ℕ = length (remains s at) in
      words-enough n (invalid_in (characters s)) most (suc most) (remains s at) (omega arith) (omega arith)

  pub ahead_end : next n (remains s at) ≡ ended → words_at n s at ≡ given []
  ahead_end e = rw (one_ahead, e)

  pub ahead-word : (after : ℕ) (w : Word) → next n (remains s at) ≡ word w (remains s after)
      → words_at n s at ≡ (words_at n s after then (λ ws. given (w ∷ ws)))
  unfolding words_at
  ahead-word after w e =
      let shorter : length (remains s after) < length (remains s at) = next_shorter n (remains s at) e in
      let enough : words_from (next n) (invalid_in (characters s)) (length (remains s at)) (remains s after)
      ≡ words_at n s after =
      words-enough n (invalid_in (characters s)) (length (remains s at)) (length (remains s after))
      (remains s after) (omega arith) (omega arith) in
      rw (one_ahead, e) (ap (λ answer. answer then (λ ws. given (w ∷ ws))) enough)

  -- an invalid character stands within the text
  pub invalid-inside : (to : ℕ) → next n (remains s at) ≡ invalid (remains s to) → to < length s
  invalid-inside to e =
      let some_remain : 0 < length (remains s to) = invalid-some (rw e at (moves n (remains s at))) in
      elim (dec_lt to (length s)) [
        | yes h ↦ h
        | no h ↦ let none_remain : remains s to ≡ [] = remains_end s to (omega arith) in
            absurd (omega (arith, rw none_remain at some_remain))
      ]

  pub ahead-invalid : (here : Cursor) → Clean s → Placed s here → next n (remains s at) ≡ invalid (remains s here.at)
      → words_at n s at ≡ refused (invalid_character here.chars (char_of (get_or s here.at 0)))
  ahead-invalid here clean placed e =
      let b : ℕ = get_or s here.at 0 in
      let after : List ℕ = remains s (here.at + bytes_of b) in
      let first : remains s here.at ≡ char_of b ∷ after =
      remains_char s here.at clean (invalid-inside here.at e) in
      rw (one_ahead, e, first)
      (ap refused (counted-place (characters s) (char_of b) after here.chars (rw first at placed.counted)))
