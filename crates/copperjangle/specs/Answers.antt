-- Every answer in six numbers: a field that has nothing to say is 0.
use Rattle.std.specs.Prelude.{ℕ, Bool, cond, List, [], ◌∷◌, eqb}
use Rattle.calculus.specs.Refusal as calculus
use Rattle.calculus.specs.Refusal.{Refusal, given, refused, refusal_number, refusal_values}
use Rattle.calculus.specs.Runs.{Run, finished, unfinished, refused_after}
use Rattle.calculus.specs.Outcomes.{Outcome}
use Rattle.copperjangle.specs.declared.Answer.{Answer}

-- the first and the second of the values that a refusal returns, or 0
abbrev pub first : List ℕ → ℕ
first [] = 0
first (v ∷ vs) = v

abbrev pub second : List ℕ → ℕ
second [] = 0
second (v ∷ vs) = first vs

-- where they are told, as (value, place, code): the length that 13 needs is a value; an offset or a place comes first
-- of all others, and a code point second
abbrev pub details : Refusal → ℕ × ℕ × ℕ
details e =
    let vs = refusal_values e in cond (eqb (refusal_number e) 13) (first vs, 0, 0) (0, first vs, second vs)

-- a refusal after so many steps
abbrev pub refused_in_numbers : (steps : ℕ) → Refusal → Answer
refused_in_numbers k e =
    record {
      refusal = refusal_number e;
      finished = 0;
      value = (details e).0;
      steps = k;
      place = (details e).1;
      code = (details e).2;
    }

-- what a run reached after so many steps
abbrev pub reached_in_numbers : (finished steps length : ℕ) → Answer
reached_in_numbers f k n = record { refusal = 0; finished = f; value = n; steps = k; place = 0; code = 0 }

unfoldable pub number_in_numbers : calculus.Answer ℕ → Answer
number_in_numbers (given n) = reached_in_numbers 0 0 n
number_in_numbers (refused e) = refused_in_numbers 0 e

-- yes is 1, no is 0
unfoldable pub truth_in_numbers : calculus.Answer Bool → Answer
truth_in_numbers (given b) = reached_in_numbers 0 0 (cond b 1 0)
truth_in_numbers (refused e) = refused_in_numbers 0 e

unfoldable pub run_in_numbers : Run ℕ → Answer
run_in_numbers (finished k n) = reached_in_numbers 1 k n
run_in_numbers (unfinished k n) = reached_in_numbers 0 k n
run_in_numbers (refused_after k e) = refused_in_numbers k e

-- an outcome whose answer is told so; output and work room are as they are
abbrev pub told_by : {A : Type 0} → (A → Answer) → Outcome A → Outcome Answer
told_by f o = (f o.0, o.1, o.2)
