-- The next word of a text in De Bruijn's notation.
use Rattle.std.specs.Prelude.{ℕ, ◌+◌, ◌-◌, ◌*◌, ◌||◌, cond, List, [], ◌∷◌, leb, eqb}
use Rattle.std.proofs.Math.Option.{Option, none, some}
use Rattle.calculus.specs.Characters.{sign, white}
use Rattle.calculus.specs.Bounds.{greatest_number}
use Rattle.calculus.specs.Numbers.{between}
use Rattle.calculus.specs.Words.{Next, ended, word, invalid, binder, opening, closing, number, rest}

-- what a character is in this notation, white space aside
pub data Glyph : Type 0 where
  lambda left right bracket end_bracket strange : Glyph
  digit : ℕ → Glyph

unfoldable pub glyph : ℕ → Glyph
glyph c =
    cond (eqb c 92 || eqb c sign) lambda
    (cond (eqb c 40) left
    (cond (eqb c 41) right
    (cond (eqb c 91) bracket
    (cond (eqb c 93) end_bracket
    (cond (between 48 57 c) (digit (c - 48))
    (cond (between 65 70 c) (digit (c - 55))
    (cond (between 97 102 c) (digit (c - 87)) strange)))))))

-- the index that a digit leads to, from none or from that of the digits before it
abbrev pub lengthened : Option ℕ → ℕ → ℕ
lengthened none d = d
lengthened (some i) d = i * 16 + d

-- a `]` ends an index that has a digit
abbrev pub index_ended : Option ℕ → List ℕ → List ℕ → Next
index_ended none at cs = invalid at
index_ended (some i) at cs = word (number i) cs

-- a digit is taken while the index fits 64 bits
abbrev pub digit_taken : ℕ → List ℕ → (Option ℕ → Next) → Next
digit_taken i at go = cond (leb i greatest_number) (go (some i)) (invalid at)

-- inside brackets, at a character, with the index of the digits so far
abbrev pub on_glyph : Glyph → Option ℕ → List ℕ → List ℕ → (Option ℕ → Next) → Next
on_glyph (digit d) i at cs go = digit_taken (lengthened i d) at go
on_glyph end_bracket i at cs go = index_ended i at cs
on_glyph lambda i at cs go = invalid at
on_glyph left i at cs go = invalid at
on_glyph right i at cs go = invalid at
on_glyph bracket i at cs go = invalid at
on_glyph strange i at cs go = invalid at

-- inside brackets, whose `[` is the first at `at`
unfoldable pub bracketed : (at : List ℕ) → Option ℕ → List ℕ → Next
unfolding glyph
bracketed at i [] = invalid at
bracketed at i (c ∷ cs) = on_glyph (glyph c) i (c ∷ cs) cs (λ i. bracketed at i cs)

-- the word at a character, by what it is
unfoldable pub word_at : Glyph → ℕ → List ℕ → Next
unfolding bracketed
word_at lambda c cs = word (binder []) cs
word_at left c cs = word opening cs
word_at right c cs = word closing cs
word_at (digit d) c cs = word (number d) cs
word_at bracket c cs = bracketed (c ∷ cs) none cs
word_at end_bracket c cs = invalid (c ∷ cs)
word_at strange c cs = invalid (c ∷ cs)

unfoldable pub first_word : List ℕ → Next
unfolding word_at glyph
first_word [] = ended
first_word (c ∷ cs) = word_at (glyph c) c cs

-- THE NEXT WORD
unfoldable pub next_de_bruijn : List ℕ → Next
unfolding first_word rest
next_de_bruijn cs = first_word (rest white cs)
