-- An index in brackets, read digit by digit.
use Prim.Native.Nat.{ℕ, ◌+◌, ◌*◌, ◌≤◌, ◌<◌}
use mathlib.Core.Path.{◌≡◌, refl, ap, ◌∙◌}
use mathlib.Core.List.{List}
use mathlib.Core.Option.{Option, none, some}
use native.Mathlib.Omega.{arith}
use lib.ListN.{length, get_or}
use Rattle.calculus.specs.Bounds.{greatest_number}
use Rattle.calculus.specs.Words.{invalid}
use Rattle.calculus.specs.DeBruijn.{first_word, bracketed, glyph, word_at}
use Rattle.words.specs.Places.{Clean, Placed, remains}
use Rattle.std.specs.Prelude.{Some, None}
use Rattle.words.specs.Digits.{hex_digit}
use Rattle.words.specs.declared.Cursor.{Cursor}
use Rattle.words.specs.declared.Word.TheVariants.{Number, Invalid}
use Rattle.words.proofs.Remaining.{remains_end}
use Rattle.words.proofs.Passing.{Stands, Past, past-further, first_char}
use Rattle.words.proofs.Telling.{Moves, stops, goes, wrong_here}
use Rattle.words.proofs.Tables.{digit_few}
use Rattle.words.proofs.DeBruijnWords.{inside-digit, inside-over, inside_wrong, inside-first}

-- brackets that open at a place, read up to another with an index so far
pub record SoFar (s : List ℕ) (from here : Cursor) (i : ℕ) : Type 0 where
  pub clean : Clean s
  pub start : Placed s from
  pub placed : Placed s here
  pub forward : from.at < here.at
  pub read : first_word (remains s from.at) ≡ bracketed (remains s from.at) (some i) (remains s here.at)

inside-ends : (s o : List ℕ) (i : Option ℕ) (at : ℕ) → length s ≤ at → bracketed o i (remains s at) ≡ invalid o
unfolding bracketed
inside-ends s o i at h = rw (remains_end s at h)

-- THE BRACKET, and the place after it
module _ {s : List ℕ} {from here : Cursor} (stands : Stands s from) (past : Past s from here)
    (bracket : get_or s from.at 0 ≡ 91) where
  opened : first_word (remains s from.at) ≡ bracketed (remains s from.at) none (remains s here.at)
  unfolding first_word word_at glyph
  opened = rw (first_char stands past, bracket)

  pub opened-last : length s ≤ here.at
      → Moves s from (first_word (remains s from.at)) (record { word = Invalid; next = from })
  opened-last h = stops stands.1 (omega arith) (opened ∙ inside-ends s _ none here.at h)

  module _ (h : here.at < length s) where
    second : Stands s here
    second = (stands.0, past.1, h)

    pub opened_wrong : hex_digit (get_or s here.at 0) ≡ None
        → Moves s from (first_word (remains s from.at)) (record { word = Invalid; next = here })
    opened_wrong is =
        let o : List ℕ = remains s from.at in
        let wrong = inside-first _ (stands.0.only_bytes here.at) o is in
        stops past.1 (omega (arith, past-further stands past)) (opened ∙ wrong_here (bracketed o none) second wrong)

    pub so_far_starts : {d : ℕ} → hex_digit (get_or s here.at 0) ≡ Some d → {r : Cursor} → Past s here r → SoFar s from r d
    so_far_starts is further =
        let o : List ℕ = remains s from.at in
        let small = digit_few _ (stands.0.only_bytes here.at) is in
        record {
          clean = stands.0;
          start = stands.1;
          placed = further.1;
          forward = omega (arith, past-further stands past, past-further second further);
          read =
              opened
              ∙ ap (bracketed o none) (first_char second further)
              ∙ inside-digit _ (stands.0.only_bytes here.at) o none is (omega arith) _;
        }

-- FURTHER ON
module _ {s : List ℕ} {from here : Cursor} {i : ℕ} (k : SoFar s from here i) where
  pub so_far_ends : length s ≤ here.at
      → Moves s from (first_word (remains s from.at)) (record { word = Invalid; next = from })
  so_far_ends h = stops k.start (omega arith) (k.read ∙ inside-ends s _ (some i) here.at h)

  module _ (h : here.at < length s) where
    pub still_stands : Stands s here
    still_stands = (k.clean, k.placed, h)

    pub so_far_closes : {r : Cursor} → Past s here r → get_or s here.at 0 ≡ 93
        → Moves s from (first_word (remains s from.at)) (record { word = Number i; next = r })
    unfolding bracketed glyph
    so_far_closes past e =
        goes past.1 (omega (arith, k.forward, past-further still_stands past)) (Number i) refl tt
        (k.read ∙ rw (first_char still_stands past, e))

    pub so_far_wrong : hex_digit (get_or s here.at 0) ≡ None → (get_or s here.at 0 ≡ 93 → ⊥)
        → Moves s from (first_word (remains s from.at)) (record { word = Invalid; next = here })
    so_far_wrong is n =
        let o : List ℕ = remains s from.at in
        let wrong = inside_wrong _ (k.clean.only_bytes here.at) o (some i) is n in
        stops k.placed (omega (arith, k.forward)) (k.read ∙ wrong_here (bracketed o (some i)) still_stands wrong)

    module _ {d : ℕ} (is : hex_digit (get_or s here.at 0) ≡ Some d) where
      pub so_far_over : greatest_number < i * 16 + d
          → Moves s from (first_word (remains s from.at)) (record { word = Invalid; next = here })
      so_far_over over =
          let o : List ℕ = remains s from.at in
          let wrong = inside-over _ (k.clean.only_bytes here.at) o (some i) is over in
          stops k.placed (omega (arith, k.forward)) (k.read ∙ wrong_here (bracketed o (some i)) still_stands wrong)

      pub so_far_goes_on : {r : Cursor} → Past s here r → i * 16 + d ≤ greatest_number
          → SoFar s from r (i * 16 + d)
      so_far_goes_on past fits =
          let o : List ℕ = remains s from.at in
          record {
            clean = k.clean;
            start = k.start;
            placed = past.1;
            forward = omega (arith, k.forward, past-further still_stands past);
            read =
                k.read
                ∙ ap (bracketed o (some i)) (first_char still_stands past)
                ∙ inside-digit _ (k.clean.only_bytes here.at) o (some i) is fits _;
          }
