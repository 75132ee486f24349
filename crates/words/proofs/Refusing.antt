-- What the length of a text and the search for a character outside the domain tell of what is refused first.
use Prim.Native.Nat.{ℕ, ◌≤◌, ◌<◌}
use mathlib.Core.Path.{◌≡◌}
use mathlib.Core.List.{List}
use mathlib.Core.Option.{some}
use lib.ListN.{length}
use borrow.Author.Tests.{le-leb, lt-leb}
use Rattle.calculus.specs.Bounds.{most_text}
use Rattle.calculus.specs.Characters.{characters, first_outside}
use Rattle.calculus.specs.Refusal.{refused, text_too_long}
use Rattle.calculus.specs.Reading.{Notation, unless_outside, characters_of}
use Rattle.term.specs.declared.Refusal.TheVariants.{TextTooLong, OutsideDomain}
use Rattle.words.specs.Places.{Clean}
use Rattle.words.specs.Judging.{Scans, is_inside, is_outside, Worded, Judges, is_refused}
use Rattle.std.specs.Prelude.{Option, Some, None, Result, Err}
use Rattle.term.specs.declared.Refusal.{Refusal}
use Rattle.words.specs.declared.text.Text.{Text}

-- the answer on length and domain
module _ (s : List ℕ) where
  long-answer : most_text < length s → characters_of s ≡ refused text_too_long
  unfolding characters_of
  long-answer long = rw (lt-leb (length s) most_text long)

  short-answer : length s ≤ most_text → characters_of s
      ≡ unless_outside (first_outside 0 (characters s)) (characters s)
  unfolding characters_of
  short-answer short = rw (le-leb (length s) most_text short)

-- what a scan tells
scanned_clean : {s : List ℕ} → Scans s None → Clean s
scanned_clean (is_inside clean) = clean

scanned_outside : {s : List ℕ} {offset : ℕ} → Scans s (Some offset)
    → first_outside 0 (characters s) ≡ some offset
scanned_outside (is_outside e) = e

pub inside-clean : {s : List ℕ} {d : Option ℕ} → Scans s d → d ≡ None → Clean s
inside-clean scans e = scanned_clean (rw e at scans)

-- LENGTH, DOMAIN, AND WORDS
module _ (n : Notation) (s : List ℕ) where
  pub too_long : most_text < length s → Judges n s (Err TextTooLong)
  too_long long = is_refused {e = TextTooLong} (rw (long-answer s long))

  pub outside : {d : Option ℕ} {offset : ℕ} → length s ≤ most_text → Scans s d → d ≡ Some offset
      → Judges n s (Err (OutsideDomain offset))
  outside {offset = offset} short scans e =
      is_refused {e = OutsideDomain offset} (rw (short-answer s short, scanned_outside (rw e at scans)))

  pub worded : {j : Result Text Refusal} → Clean s → Worded n s j → Judges n s j
  worded clean w = rw (short-answer s clean.short, clean.domain) w

-- what the judge is proved by
pub ruleset judging = (inside-clean, too_long, outside, worded)
