-- What is read, and what a run reaches, is within the program's cap: its bytes pass the check.
use Prim.Native.Nat.{ℕ, ◌≤◌}
use mathlib.Core.Path.{◌≡◌, refl}
use mathlib.Core.List.{List, []}
use mathlib.Core.Option.{none}
use native.Mathlib.Omega.{arith}
use Rattle.calculus.specs.Term.{Term, nodes, height}
use Rattle.calculus.specs.Bounds.{most_height, most_open, program_cap}
use Rattle.calculus.specs.Bytes.{encode}
use Rattle.calculus.specs.Refusal.{Refusal, Answer, given, refused, ◌then◌}
use Rattle.calculus.specs.Judging.{within, judge}
use Rattle.calculus.specs.Orders.{Order}
use Rattle.calculus.specs.Runs.{Run, finished, unfinished, refused_after, run}
use Rattle.calculus.specs.Ends.{Accepted, stay_so, go_on, Ends, ends_finished, ends_unfinished, ends_refused}
use Rattle.calculus.specs.Words.{words}
use Rattle.calculus.specs.Walk.{walk}
use Rattle.calculus.specs.Grammar.{parsed}
use Rattle.calculus.specs.Reading.{Notation, next, characters_of, read_text}
use Rattle.calculus.specs.Outcomes.{checked, run_on}
use Rattle.calculus.proofs.Coding.{decode-encode}
use Rattle.calculus.proofs.Judged.{given-in_bounds, accepted, checked-given, given-checked}
use Rattle.calculus.proofs.Running.{run_ends}

abbrev pub Passes : Term → Type 0
Passes t = checked program_cap (encode t) ≡ given t

passes : (t : Term) → height t ≤ most_height → nodes t ≤ program_cap → Passes t
passes t low few = given-checked (encode t) (decode-encode t) low few

pub checked-passes : (s : List ℕ) {t : Term} → checked program_cap s ≡ given t → Passes t
checked-passes s {t} e = let (_, low, few) = checked-given s e in passes t low few

-- 7 and 9 are the last to judge what is read
pub read-passes : (n : Notation) (text : List ℕ) {t : Term} → read_text n program_cap text ≡ given t → Passes t
unfolding read_text
read-passes n text {t} e =
    judged (characters_of text then words (next n) then walk most_open [] then (λ ts. parsed ts none [])) e
  where
    judged : (x : Answer Term) → (x then within program_cap) ≡ given t → Passes t
    judged (given u) e = let (same, low, few) = given-in_bounds u e in rw same at (passes u low few)
    judged (refused why) e = let never : ◌≡◌ {A = ℕ} 0 1 = cc in absurd (omega arith)

-- RUNS: a term that is reached passes
pub data Reaches : Run Term → Type 0 where
  at_end : {k : ℕ} {u : Term} → Passes u → Reaches (finished k u)
  at_limit : {k : ℕ} {u : Term} → Passes u → Reaches (unfinished k u)
  nowhere : {k : ℕ} {why : Refusal} → Reaches (refused_after k why)

module _ {o : Order} where
  still_passes : {k : ℕ} {t u : Term} → Passes t → Accepted (judge program_cap) o k t u → Passes u
  still_passes p stay_so = p
  still_passes p (go_on {u = u} e a s) = let (_, low, few) = accepted u a in still_passes (passes u low few) s

  reaches : {limit : ℕ} {t : Term} {r : Run Term} → Passes t → Ends (judge program_cap) o limit t r → Reaches r
  reaches p (ends_finished h s k) = at_end (still_passes p s)
  reaches p (ends_unfinished s k) = at_limit (still_passes p s)
  reaches p (ends_refused h s k j) = nowhere

-- whatever the term was read from
pub run-reaches : (o : Order) (limit : ℕ) (x : Answer Term) → ((t : Term) → x ≡ given t → Passes t)
    → Reaches (run_on x (run (judge program_cap) o limit))
run-reaches o limit (given t) p = reaches (p t refl) (run_ends (judge program_cap) o limit t)
run-reaches o limit (refused why) p = nowhere
