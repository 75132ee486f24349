-- What each byte is as a character, by tables of all 256.
use Prim.Native.Nat.{ℕ, ◌<◌}
use mathlib.Core.Path.{◌≡◌, refl, sym, ap, ◌∙◌}
use mathlib.Core.Bool.{Bool, true, ◌||◌, not, cond}
use Rattle.std.proofs.lemmas.Bool.{ltb-true}
use lib.Dec.{ltb, eqb}
use Rattle.calculus.specs.Characters.{white}
use Rattle.calculus.specs.Classic as classic
use Rattle.calculus.specs.DeBruijn as de_bruijn
use Rattle.calculus.proofs.Tests.{table, by_table}
use Rattle.words.specs.Places.{char_of}
use Rattle.std.specs.Prelude.{Option, Some, None}
use Rattle.words.specs.Digits.{hex_digit}

-- WHAT A RUN MAY HOLD
pub white_char : (b : ℕ) → b < 256 → white (char_of b) ≡ white b
unfolding table
white_char b h = by_table (λ b. white (char_of b)) (λ b. white b) 256 refl b h

pub binder_char : (b : ℕ) → b < 256
    → classic.in_binder (char_of b) ≡ classic.is_letter b || classic.is_figure b || eqb b 206
unfolding table
binder_char b h =
    by_table (λ b. classic.in_binder (char_of b)) (λ b. classic.is_letter b || classic.is_figure b || eqb b 206)
    256 refl b h

pub name_char : (b : ℕ) → b < 256 → classic.in_name (char_of b) ≡ not (eqb b 40 || eqb b 41 || white b)
unfolding table
name_char b h =
    by_table (λ b. classic.in_name (char_of b)) (λ b. not (eqb b 40 || eqb b 41 || white b)) 256 refl b h

-- A BINDER'S NAME: how it may not start, and where it ends
pub figure_char : (b : ℕ) → b < 256 → classic.is_figure (char_of b) ≡ classic.is_figure b
unfolding table
figure_char b h = by_table (λ b. classic.is_figure (char_of b)) (λ b. classic.is_figure b) 256 refl b h

pub dot_char : (b : ℕ) → b < 256 → eqb (char_of b) 46 ≡ eqb b 46
unfolding table
dot_char b h = by_table (λ b. eqb (char_of b) 46) (λ b. eqb b 46) 256 refl b h

-- GLYPHS, by the tests that the code makes
abbrev pub classic-glyph : ℕ → classic.Glyph
classic-glyph b =
    cond (classic.is_letter b) classic.letter
    (cond (eqb b 92) classic.lambda
    (cond (eqb b 206) classic.lambda (cond (eqb b 40) classic.left (cond (eqb b 41) classic.right classic.strange))))

pub glyph-classic : (b : ℕ) → b < 256 → classic.glyph (char_of b) ≡ classic-glyph b
unfolding table classic.glyph
glyph-classic b h = by_table (λ b. classic.glyph (char_of b)) classic-glyph 256 refl b h

-- those that are no digit and no `]`
abbrev pub other_glyph : ℕ → de_bruijn.Glyph
other_glyph b =
    cond (eqb b 92) de_bruijn.lambda
    (cond (eqb b 206) de_bruijn.lambda
    (cond (eqb b 40) de_bruijn.left
    (cond (eqb b 41) de_bruijn.right (cond (eqb b 91) de_bruijn.bracket de_bruijn.strange))))

abbrev pub digit_or : Option ℕ → de_bruijn.Glyph → de_bruijn.Glyph
digit_or (Some d) other = de_bruijn.digit d
digit_or None other = other

abbrev pub de_bruijn-glyph : ℕ → de_bruijn.Glyph
de_bruijn-glyph b = digit_or (hex_digit b) (cond (eqb b 93) de_bruijn.end_bracket (other_glyph b))

pub glyph-de_bruijn : (b : ℕ) → b < 256 → de_bruijn.glyph (char_of b) ≡ de_bruijn-glyph b
unfolding table de_bruijn.glyph hex_digit
glyph-de_bruijn b h = by_table (λ b. de_bruijn.glyph (char_of b)) de_bruijn-glyph 256 refl b h

-- A DIGIT is less than 16
abbrev few : Option ℕ → Bool
few (Some d) = ltb d 16
few None = true

pub digit_few : (b : ℕ) → b < 256 → {d : ℕ} → hex_digit b ≡ Some d → d < 16
unfolding table hex_digit
digit_few b h {d} is = ltb-true d 16 (sym (ap few is) ∙ by_table (λ b. few (hex_digit b)) (λ b. true) 256 refl b h)

-- what is none of the values is none
pub only_none : {A : Type 0} (o : Option A) → ((x : A) → o ≡ Some x → ⊥) → o ≡ None
only_none None h = refl
only_none (Some x) h = absurd (h x refl)
