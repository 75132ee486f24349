-- Places in the bytes of a text: what remains there as characters, and names that stand between two of them.
use Rattle.std.specs.Prelude.{ℕ, ◌+◌, ◌-◌, ◌≤◌, ◌<◌, ◌≡◌, cond, List, eqb, length, take, drop, get_or}
use Rattle.std.proofs.Math.Option.{none}
use Rattle.calculus.specs.Bounds.{most_text}
use Rattle.calculus.specs.Characters.{sign, characters, first_outside}
use Rattle.words.specs.declared.Cursor.{Cursor}
use Rattle.words.specs.declared.Name.{Name}

-- the characters from an offset on
unfoldable pub remains : List ℕ → ℕ → List ℕ
unfolding characters
remains s at = characters (drop at s)

-- a text that 3 and 4 let pass
pub record Clean (s : List ℕ) : Type 0 where
  pub short : length s ≤ most_text
  pub only_bytes : (at : ℕ) → get_or s at 0 < 256
  pub domain : first_outside 0 (characters s) ≡ none

-- a cursor is within the text, and tells how many characters stand before it
pub record Placed (s : List ℕ) (here : Cursor) : Type 0 where
  pub inside : here.at ≤ length s
  pub fewer : here.chars ≤ here.at
  pub counted : here.chars + length (remains s here.at) ≡ length (characters s)

-- the character that begins with a byte of a clean text, and its bytes
abbrev pub char_of : ℕ → ℕ
char_of b = cond (eqb b 0xCE) sign b

abbrev pub bytes_of : ℕ → ℕ
bytes_of b = cond (eqb b 0xCE) 2 1

-- one character further
abbrev pub past_char : List ℕ → Cursor → Cursor
past_char s here = record {
  at = here.at + bytes_of (get_or s here.at 0);
  chars = here.chars + 1;
}

-- a name's characters
abbrev pub name_of : List ℕ → Name → List ℕ
name_of s x = characters (take (x.to - x.from) (drop x.from s))

pub record Inside (s : List ℕ) (x : Name) : Type 0 where
  pub forward : x.from ≤ x.to
  pub within : x.to ≤ length s
