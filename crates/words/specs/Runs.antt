-- Runs of characters: which each kind may hold, and the place after one.
use Rattle.std.specs.Prelude.{ℕ, ◌≤◌, ◌≡◌, Bool, List}
use Rattle.calculus.specs.Characters.{white}
use Rattle.calculus.specs.Words.{start, rest}
use Rattle.calculus.specs.Classic.{in_binder, in_name}
use Rattle.words.specs.Places.{remains, Placed, name_of}
use Rattle.words.specs.declared.Cursor.{Cursor}
use Rattle.words.specs.declared.bytes.Run.{Run}
use Rattle.words.specs.declared.bytes.Run.TheVariants as run

abbrev pub test_of : Run → ℕ → Bool
test_of run.White c = white c
test_of run.Bound c = in_binder c
test_of run.Elsewhere c = in_name c

-- the run of characters that pass a test, from one place to another
pub record Over (s : List ℕ) (test : ℕ → Bool) (from to : Cursor) : Type 0 where
  pub placed : Placed s to
  pub forward : from.at ≤ to.at
  pub run : start test (remains s from.at) ≡ name_of s (record { from = from.at; to = to.at })
  pub after : rest test (remains s from.at) ≡ remains s to.at
