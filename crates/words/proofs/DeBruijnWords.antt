-- The word at a character in De Bruijn's notation, by the byte that it begins with.
use Prim.Native.Nat.{ℕ, ◌≤◌, ◌<◌}
use mathlib.Core.Path.{◌≡◌, refl, ap, ◌∙◌}
use mathlib.Core.Bool.{Bool, true, false, cond}
use mathlib.Core.List.{List, ◌∷◌}
use mathlib.Core.Option.{Option, none, some}
use native.Mathlib.Decide.{ℕ_discrete}
use lib.Dec.{eqb}
use borrow.Author.Tests.{le-leb, lt-leb, ne_eqb}
use Rattle.calculus.specs.Bounds.{greatest_number}
use Rattle.calculus.specs.Words.{Next, word, invalid, number}
use Rattle.calculus.specs.DeBruijn.{lambda, left, right, bracket, end_bracket, strange, digit, glyph, word_at}
use Rattle.calculus.specs.DeBruijn.{first_word, lengthened, on_glyph, bracketed}
use Rattle.words.specs.Places.{char_of}
use Rattle.std.specs.Prelude.{Some, None}
use Rattle.words.specs.Digits.{hex_digit}
use Rattle.words.proofs.Tables.{other_glyph, digit_or, glyph-de_bruijn}
use Rattle.words.proofs.Telling.{Wrong}

-- glyphs that start no word, and those that are no part of an index
wrong_start : (x : Bool) (c : ℕ) (cs : List ℕ) → word_at (cond x end_bracket strange) c cs ≡ invalid (c ∷ cs)
unfolding word_at
wrong_start true c cs = refl
wrong_start false c cs = refl

wrong_inside : (p q l r b : Bool) (i : Option ℕ) (at cs : List ℕ) (go : Option ℕ → Next)
    → on_glyph (cond p lambda (cond q lambda (cond l left (cond r right (cond b bracket strange))))) i at cs go
    ≡ invalid at
wrong_inside true q l r b i at cs go = refl
wrong_inside false true l r b i at cs go = refl
wrong_inside false false true r b i at cs go = refl
wrong_inside false false false true b i at cs go = refl
wrong_inside false false false false true i at cs go = refl
wrong_inside false false false false false i at cs go = refl

-- a byte, and its value as a hex digit
module _ (b : ℕ) (byte : b < 256) where
  is_digit : {d : ℕ} → hex_digit b ≡ Some d → glyph (char_of b) ≡ digit d
  is_digit is = glyph-de_bruijn b byte ∙ ap (λ o. digit_or o (cond (eqb b 93) end_bracket (other_glyph b))) is

  no_digit : hex_digit b ≡ None → glyph (char_of b) ≡ cond (eqb b 93) end_bracket (other_glyph b)
  no_digit is = glyph-de_bruijn b byte ∙ ap (λ o. digit_or o (cond (eqb b 93) end_bracket (other_glyph b))) is

  -- AT THE START OF A WORD
  pub first-digit : {d : ℕ} → hex_digit b ≡ Some d → (cs : List ℕ) → first_word (char_of b ∷ cs) ≡ word (number d) cs
  unfolding first_word word_at
  first-digit is cs = rw (is_digit is)

  pub first_wrong : hex_digit b ≡ None → (b ≡ 91 → ⊥) → (b ≡ 92 → ⊥) → (b ≡ 206 → ⊥) → (b ≡ 40 → ⊥) → (b ≡ 41 → ⊥)
      → Wrong first_word (char_of b)
  unfolding first_word
  first_wrong no_more n₁ n₂ n₃ n₄ n₅ cs =
      let wrong : glyph (char_of b) ≡ cond (eqb b 93) end_bracket strange =
      no_digit no_more ∙ rw (ne_eqb b 91 n₁, ne_eqb b 92 n₂, ne_eqb b 206 n₃, ne_eqb b 40 n₄, ne_eqb b 41 n₅) in
      rw wrong (wrong_start (eqb b 93) (char_of b) cs)

  -- INSIDE BRACKETS
  module _ (o : List ℕ) (i : Option ℕ) where
    pub inside-digit : {d : ℕ} → hex_digit b ≡ Some d → lengthened i d ≤ greatest_number → (cs : List ℕ)
        → bracketed o i (char_of b ∷ cs) ≡ bracketed o (some (lengthened i d)) cs
    unfolding bracketed
    inside-digit {d} is fits cs = rw (is_digit is, le-leb (lengthened i d) greatest_number fits)

    pub inside-over : {d : ℕ} → hex_digit b ≡ Some d → greatest_number < lengthened i d → Wrong (bracketed o i) (char_of b)
    unfolding bracketed
    inside-over {d} is over cs = rw (is_digit is, lt-leb (lengthened i d) greatest_number over)

    pub inside_wrong : hex_digit b ≡ None → (b ≡ 93 → ⊥) → Wrong (bracketed o i) (char_of b)
    unfolding bracketed
    inside_wrong no_more n cs =
        rw (no_digit no_more, ne_eqb b 93 n)
        (wrong_inside (eqb b 92) (eqb b 206) (eqb b 40) (eqb b 41) (eqb b 91) i (char_of b ∷ cs) cs
        (λ j. bracketed o j cs))

  -- before any digit, a `]` is wrong as well
  pub inside-first : (o : List ℕ) → hex_digit b ≡ None → Wrong (bracketed o none) (char_of b)
  unfolding bracketed glyph
  inside-first o is cs =
      elim (ℕ_discrete b 93) [ yes f ↦ rw f | no n ↦ inside_wrong o none is n cs ]
