-- The next word of a text in classic notation.
use Rattle.std.specs.Prelude.{ℕ, Bool, not, ◌||◌, cond, List, [], ◌∷◌, eqb}
use Rattle.calculus.specs.Characters.{sign, white}
use Rattle.calculus.specs.Numbers.{between}
use Rattle.calculus.specs.Words.{Next, ended, word, invalid, Name, binder, opening, closing, name, start, rest}

-- what a character is in this notation, white space aside
pub data Glyph : Type 0 where
  lambda left right letter strange : Glyph

abbrev pub is_letter : ℕ → Bool
is_letter c = between 65 90 c || between 97 122 c

abbrev pub is_figure : ℕ → Bool
is_figure c = between 48 57 c

-- of a binder's name: the sign counts as a letter
abbrev pub in_binder : ℕ → Bool
in_binder c = is_letter c || is_figure c || eqb c sign

-- of a name elsewhere: it runs to white space or a parenthesis
abbrev pub in_name : ℕ → Bool
in_name c = not (white c || eqb c 40 || eqb c 41)

unfoldable pub glyph : ℕ → Glyph
glyph c =
    cond (eqb c 92 || eqb c sign) lambda
    (cond (eqb c 40) left (cond (eqb c 41) right (cond (is_letter c) letter strange)))

-- a binder's name ends at a `.` or with the text
unfoldable pub binder_ended : Name → List ℕ → Next
binder_ended x [] = word (binder x) []
binder_ended x (c ∷ cs) = cond (eqb c 46) (word (binder x) cs) (invalid (c ∷ cs))

-- after a lambda: a name that starts with no figure
unfoldable pub binder_at : List ℕ → Next
unfolding binder_ended start rest
binder_at [] = word (binder []) []
binder_at (c ∷ cs) =
    cond (is_figure c) (invalid (c ∷ cs)) (binder_ended (start in_binder (c ∷ cs)) (rest in_binder (c ∷ cs)))

-- the word at a character, by what it is
unfoldable pub word_at : Glyph → ℕ → List ℕ → Next
unfolding binder_at start rest
word_at lambda c cs = binder_at cs
word_at left c cs = word opening cs
word_at right c cs = word closing cs
word_at letter c cs = word (name (c ∷ start in_name cs)) (rest in_name cs)
word_at strange c cs = invalid (c ∷ cs)

unfoldable pub first_word : List ℕ → Next
unfolding word_at glyph
first_word [] = ended
first_word (c ∷ cs) = word_at (glyph c) c cs

-- THE NEXT WORD
unfoldable pub next_classic : List ℕ → Next
unfolding first_word rest
next_classic cs = first_word (rest white cs)
