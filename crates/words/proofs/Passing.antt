-- A cursor one character further, and the run of characters that it passes.
use Prim.Native.Nat.{ℕ, ◌+◌, ◌≤◌, ◌<◌}
use mathlib.Core.Path.{◌≡◌, refl, ap, sym, ◌∙◌}
use mathlib.Core.Bool.{Bool, true, false, cond}
use mathlib.Core.List.{List, [], ◌∷◌, ◌++◌}
use native.Mathlib.Omega.{arith}
use native.Mathlib.Decide.{ℕ_discrete}
use lib.Dec.{eqb}
use lib.ListN.{length, get_or}
use borrow.Author.Tests.{ne_eqb}
use Rattle.calculus.specs.Words.{start, rest}
use Rattle.calculus.proofs.Moves.{rest-stops, rest_goes}
use Rattle.words.specs.Places.{Clean, Placed, remains, char_of, bytes_of, past_char}
use Rattle.words.specs.Runs.{Over}
use Rattle.words.specs.declared.Cursor.{Cursor}
use Rattle.words.proofs.Remaining.{signs, remains_end, remains_char, between-places}

-- a character has a byte or more
some_byte : (b : ℕ) → 1 ≤ bytes_of b
some_byte b = chosen (eqb b 0xCE)
  where
    chosen : (x : Bool) → 1 ≤ cond x 2 1
    chosen true = omega arith
    chosen false = omega arith

-- a character stands at a place, and another place is one character further
abbrev pub Stands : List ℕ → Cursor → Type 0
Stands s here = Clean s × Placed s here × (here.at < length s)

abbrev pub Past : List ℕ → Cursor → Cursor → Type 0
Past s here r = (r ≡ past_char s here) × Placed s r

-- ONE CHARACTER FURTHER
module _ {s : List ℕ} {here : Cursor} (stands : Stands s here) where
  bytes_inside : here.at + bytes_of (get_or s here.at 0) ≤ length s
  bytes_inside =
      elim (ℕ_discrete (get_or s here.at 0) 0xCE) [
        | yes e ↦ rw e (omega (arith, (signs stands.0 here.at stands.2 e).0))
        | no n ↦ rw (ne_eqb (get_or s here.at 0) 0xCE n) (omega arith)
      ]

  past-placed : Placed s (past_char s here)
  past-placed =
      let counted = ap length (remains_char s here.at stands.0 stands.2) in
      record {
        inside = bytes_inside;
        fewer = omega (arith, stands.1.fewer, some_byte (get_or s here.at 0));
        counted = omega (arith, stands.1.counted, counted);
      }

  -- what `past` tells, once its answer is known
  pub past-told : {r : Cursor} → r ≡ past_char s here → Past s here r
  past-told e = (e, rw e past-placed)

  module _ {r : Cursor} (past : Past s here r) where
    pub past-further : here.at < r.at
    past-further = rw past.0 (omega (arith, some_byte (get_or s here.at 0)))

    pub first_char : remains s here.at ≡ char_of (get_or s here.at 0) ∷ remains s r.at
    first_char = rw past.0 (remains_char s here.at stands.0 stands.2)

-- RUNS: characters are those that pass a test, and the rest
start-rest : (test : ℕ → Bool) (cs : List ℕ) → cs ≡ start test cs ++ rest test cs
unfolding start rest
start-rest test [] = refl
start-rest test (c ∷ cs) =
    elim (test c)
    as (λ b.
    c ∷ cs ≡ elim b [ true ↦ c ∷ start test cs | false ↦ [] ] ++ elim b [ true ↦ rest test cs | false ↦ c ∷ cs ]) [
      | true ↦ ap (λ x. c ∷ x) (start-rest test cs)
      | false ↦ refl
    ]

pub run_splits : (s : List ℕ) (test : ℕ → Bool) (from to : ℕ) → rest test (remains s from) ≡ remains s to
    → remains s from ≡ start test (remains s from) ++ remains s to
run_splits s test from to after =
    start-rest test (remains s from) ∙ ap (λ cs. start test (remains s from) ++ cs) after

-- from a place to another only characters that pass a test
pub record Passing (s : List ℕ) (test : ℕ → Bool) (from here : Cursor) : Type 0 where
  pub clean : Clean s
  pub placed : Placed s here
  pub forward : from.at ≤ here.at
  pub same : rest test (remains s from.at) ≡ rest test (remains s here.at)

module _ {s : List ℕ} {test : ℕ → Bool} {from : Cursor} where
  pub passing_none : Clean s × Placed s from → Passing s test from from
  passing_none (clean, placed) = record { clean = clean; placed = placed; forward = omega arith; same = refl }

  module _ {here : Cursor} (k : Passing s test from here) where
    pub stands_here : here.at < length s → Stands s here
    stands_here h = (k.clean, k.placed, h)

    pub passing_on : here.at < length s → test (char_of (get_or s here.at 0)) ≡ true
        → {r : Cursor} → Past s here r → Passing s test from r
    passing_on h passes past =
        record {
          clean = k.clean;
          placed = past.1;
          forward = omega (arith, k.forward, past-further (stands_here h) past);
          same = k.same ∙ ap (rest test) (first_char (stands_here h) past) ∙ rest_goes test _ _ passes;
        }

    -- where the run ends, the name between is the run
    passed : rest test (remains s here.at) ≡ remains s here.at → Over s test from here
    passed stops =
        let after : rest test (remains s from.at) ≡ remains s here.at = k.same ∙ stops in
        let run : List ℕ = start test (remains s from.at) in
        let splits = run_splits s test from.at here.at after in
        record {
          placed = k.placed;
          forward = k.forward;
          run = sym (between-places s run from.at here.at k.clean k.forward k.placed.inside splits);
          after = after;
        }

    pub passed-stop : here.at < length s → test (char_of (get_or s here.at 0)) ≡ false → Over s test from here
    passed-stop h fails = passed (rw (remains_char s here.at k.clean h) (rest-stops test _ _ fails))

    pub passed_end : length s ≤ here.at → Over s test from here
    unfolding rest
    passed_end h = passed (rw (remains_end s here.at h))
