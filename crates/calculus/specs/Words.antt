-- The words of a text, and how a notation that gives the next word gives them all, or refusal 5.
use Rattle.std.specs.Prelude.{ℕ, zero, suc, ◌-◌, Bool, true, false, List, [], ◌∷◌, length}
use Rattle.calculus.specs.Refusal.{Refusal, invalid_character, Answer, given, refused, ◌then◌}

abbrev pub Name : Type 0
Name = List ℕ

-- De Bruijn's binders have the empty name
pub data Word : Type 0 where
  binder : Name → Word
  opening closing : Word
  number : ℕ → Word
  name : Name → Word

-- the next word with the characters after it, or those from an invalid character on
pub data Next : Type 0 where
  ended : Next
  word : Word → List ℕ → Next
  invalid : List ℕ → Next

-- the longest start of characters that pass a test, and the rest
unfoldable pub start : (ℕ → Bool) → List ℕ → List ℕ
start test [] = []
start test (c ∷ cs) = elim (test c) [ true ↦ c ∷ start test cs | false ↦ [] ]

unfoldable pub rest : (ℕ → Bool) → List ℕ → List ℕ
rest test [] = []
rest test (c ∷ cs) = elim (test c) [ true ↦ rest test cs | false ↦ c ∷ cs ]

-- refusal 5: the place of an invalid character, counted in characters of the text, and its code point; what remains at
-- an invalid character is never empty
unfoldable pub invalid_in : (text at : List ℕ) → Refusal
invalid_in text [] = invalid_character (length text) 0
invalid_in text (c ∷ cs) = invalid_character (length text - suc (length cs)) c

-- a word, and the words after it
abbrev pub on_next : (List ℕ → Refusal) → Next → (List ℕ → Answer (List Word)) → Answer (List Word)
on_next refusal ended go = given []
on_next refusal (word w after) go = go after then (λ ws. given (w ∷ ws))
on_next refusal (invalid at) go = refused (refusal at)

-- all words of what remains of a text, in at most n steps; each word takes one character or more
unfoldable pub words_from : (List ℕ → Next) → (List ℕ → Refusal) → ℕ → List ℕ → Answer (List Word)
words_from next refusal zero cs = given []
words_from next refusal (suc n) cs = on_next refusal (next cs) (words_from next refusal n)

unfoldable pub words : (List ℕ → Next) → List ℕ → Answer (List Word)
unfolding words_from invalid_in
words next text = words_from next (invalid_in text) (length text) text
