-- THE PROGRAM: what it writes, from all that it reads.
use Rattle.std.specs.Prelude.{ℕ, ◌-◌, cond, List, [], ◌∷◌, ◌++◌, map, reverse, leb, eqb, length, take, drop}
use Rattle.std.proofs.Math.Option.{Option, none, some}
use Rattle.calculus.specs.Term.{Term}
use Rattle.calculus.specs.Numbers.{between, numeral, from_digits}
use Rattle.calculus.specs.Bounds.{most_input, program_cap}
use Rattle.calculus.specs.Refusal.{Refusal, refusal_number, outside_bounds, text_too_long}
use Rattle.calculus.specs.Judging.{judge, next_within}
use Rattle.calculus.specs.Substitution.{put}
use Rattle.calculus.specs.Orders.{Order, CBN, HSP, CBV, APP, NOR, HNO, HAP}
use Rattle.calculus.specs.Runs.{Run, finished, unfinished, refused_after, run}
use Rattle.calculus.specs.Characters.{codes, same_text}
use Rattle.calculus.specs.Words.{start, rest}
use Rattle.calculus.specs.Classic.{is_figure}
use Rattle.calculus.specs.Reading.{Notation, de_bruijn, classic, read_text}
use Rattle.calculus.specs.Writing.{write_text}
use Rattle.calculus.specs.Outcomes.{limit_allowed, run_on}

-- what the first line asks for, and the text after it
pub data Job : Type 0 where
  job : Order → (limit : ℕ) → Notation → (text : List ℕ) → Job

abbrev ◌>>=◌ : {A B : Type 0} → Option A → (A → Option B) → Option B
◌>>=◌ none next = none
◌>>=◌ (some a) next = next a

-- the value beside a word in a table
unfoldable pub look_up : {A : Type 0} → List (List ℕ × A) → List ℕ → Option A
unfolding same_text
look_up [] x = none
look_up (e ∷ es) x = cond (same_text x e.0) (some e.1) (look_up es x)

unfoldable pub order_words : List (List ℕ × Order)
unfolding codes
order_words =
    (codes "CBN", CBN) ∷ (codes "HSP", HSP) ∷ (codes "CBV", CBV) ∷ (codes "APP", APP) ∷ (codes "NOR", NOR)
    ∷ (codes "HNO", HNO) ∷ (codes "HAP", HAP) ∷ []

unfoldable pub notation_words : List (List ℕ × Notation)
unfolding codes
notation_words = (codes "dbr", de_bruijn) ∷ (codes "cla", classic) ∷ []

-- what follows a byte that must stand first
abbrev pub past : ℕ → List ℕ → Option (List ℕ)
past b [] = none
past b (c ∷ cs) = cond (eqb b c) (some cs) none

-- the number of one to seven decimal digits
abbrev pub limit_in : List ℕ → Option ℕ
limit_in ds = cond (between 1 7 (length ds)) (some (from_digits 10 (reverse (map (λ c. c - 48) ds)))) none

-- THE FIRST LINE: an order's three letters, a space, a limit, a space, the notation, a line feed; or it is malformed
unfoldable pub first_line : List ℕ → Option Job
unfolding look_up order_words notation_words start rest from_digits
first_line s = do
  o ← look_up order_words (take 3 s)
  digits ← past 32 (drop 3 s)
  limit ← limit_in (start is_figure digits)
  letters ← past 32 (rest is_figure digits)
  n ← look_up notation_words (take 3 letters)
  text ← past 10 (drop 3 letters)
  some (job o limit n text)

-- THE OUTPUT: a word and a number, ended by a line feed; and a term in the notation read
abbrev pub line : List ℕ → ℕ → List ℕ
line word n = word ++ (32 ∷ (numeral 10 7 n ++ (10 ∷ [])))

abbrev pub term_line : Notation → Term → List ℕ
term_line n t = write_text n t ++ (10 ∷ [])

abbrev pub refused_line : Refusal → List ℕ
unfolding codes numeral
refused_line e = line (codes "refused") (refusal_number e)

abbrev pub report : Notation → Run Term → List ℕ
unfolding codes numeral write_text
report n (finished k t) = line (codes "finished") k ++ term_line n t
report n (unfinished k t) = line (codes "unfinished") k ++ term_line n t
report n (refused_after k e) = refused_line e

-- what a job comes to: a limit outside its bounds is 1, before the text is read
unfoldable pub comes_to : Job → Run Term
unfolding read_text run next_within put
comes_to (job o limit n text) =
    cond (limit_allowed limit) (run_on (read_text n program_cap text) (run (judge program_cap) o limit))
    (refused_after 0 outside_bounds)

abbrev pub done : Job → List ℕ
unfolding codes numeral write_text
done (job o limit n text) = report n (comes_to (job o limit n text))

abbrev pub done_or_malformed : Option Job → List ℕ
unfolding codes numeral write_text comes_to
done_or_malformed none = refused_line outside_bounds
done_or_malformed (some j) = done j

-- too many bytes are 3, before the first line is looked at
unfoldable pub program_of : List ℕ → List ℕ
unfolding codes numeral write_text first_line comes_to
program_of s =
    cond (leb (length s) most_input) (done_or_malformed (first_line s)) (refused_line text_too_long)
