-- What the program writes: by its input's length and its first line, and never more than the output holds.
use Prim.Native.Nat.{ℕ, ◌≤◌, ◌<◌}
use mathlib.Core.Path.{◌≡◌, sym, ap₂, ◌∙◌}
use mathlib.Core.Bool.{Bool, true, false, cond}
use mathlib.Core.List.{List, [], ◌∷◌, ◌++◌}
use mathlib.Core.Option.{Option, none, some}
use native.Mathlib.Omega.{arith}
use native.Mathlib.Nat.{zero-add}
use lib.Dec.{leb}
use lib.ListN.{length, take, length-append}
use lib.Seq.{sets, length-take-le}
use borrow.Author.Tests.{le-leb, lt-leb}
use Rattle.calculus.specs.Term.{Term}
use Rattle.calculus.specs.Bounds.{most_input, program_cap}
use Rattle.calculus.specs.Bytes.{encode}
use Rattle.calculus.specs.Numbers.{numeral}
use Rattle.calculus.specs.Characters.{codes}
use Rattle.calculus.specs.Refusal.{Refusal, refusal_number, outside_bounds, text_too_long}
use Rattle.calculus.specs.Runs.{Run, refused_after}
use Rattle.calculus.specs.Reading.{Notation, read_text}
use Rattle.calculus.specs.Writing.{write_text}
use Rattle.calculus.specs.Outcomes.{limit_allowed, laid_over}
use Rattle.calculus.specs.Program.{Job, job, line, term_line, refused_line, report, comes_to, done, done_or_malformed}
use Rattle.calculus.specs.Program.{first_line, program_of}
use Rattle.calculus.proofs.Putting.{Puts, puts-length, laid}
use Rattle.io.specs.Counts.{IsPrefixLen}
use Rattle.marking.specs.Answers.{Lays}
use Rattle.marking.specs.Working.{most_word, most_output}
use Rattle.marking.proofs.Lines.{line-short}
use Rattle.marking.proofs.Texts.{text-short}
use Rattle.marking.proofs.Passing.{Passes, read-passes, Reaches, at_end, at_limit, nowhere, run-reaches}

-- HOW LONG IT IS
refused-short : (e : Refusal) → length (refused_line e) ≤ most_output
unfolding codes numeral
refused-short e = let short = line-short (codes "refused") (refusal_number e) (omega arith) in omega arith

reached-short : (word : List ℕ) (k : ℕ) (n : Notation) {u : Term} → length word ≤ most_word → Passes u
    → length (line word k ++ term_line n u) ≤ most_output
reached-short word k n {u} short passes =
    omega (
      arith,
      line-short word k short,
      text-short n (encode u) passes,
      length-append (line word k) (term_line n u),
      length-append (write_text n u) (10 ∷ []),
    )

report-short : (n : Notation) {r : Run Term} → Reaches r → length (report n r) ≤ most_output
unfolding codes numeral write_text
report-short n (at_end {k = k} p) = reached-short (codes "finished") k n (omega arith) p
report-short n (at_limit {k = k} p) = reached-short (codes "unfinished") k n (omega arith) p
report-short n (nowhere {why = why}) = refused-short why

done-short : (j : Job) → length (done j) ≤ most_output
unfolding comes_to codes numeral write_text
done-short (job o limit n text) =
    let ran = run-reaches o limit (read_text n program_cap text) (λ t e. read-passes n text e) in
    report-short n (by_limit ran (limit_allowed limit))
  where
    by_limit : {r : Run Term} → Reaches r → (b : Bool) → Reaches (cond b r (refused_after 0 outside_bounds))
    by_limit ran true = ran
    by_limit ran false = nowhere

-- WHICH IT IS
module _ (s : List ℕ) where
  pub too_long : most_input < length s → program_of s ≡ refused_line text_too_long
  unfolding program_of
  too_long h = rw (lt-leb (length s) most_input h)

  module _ (fits : length s ≤ most_input) where
    pub malformed : first_line s ≡ none → program_of s ≡ refused_line outside_bounds
    unfolding program_of
    malformed e = rw (le-leb (length s) most_input fits, e)

    pub well_formed : {j : Job} → first_line s ≡ some j → program_of s ≡ done j
    unfolding program_of
    well_formed e = rw (le-leb (length s) most_input fits, e)

  program-short : length (program_of s) ≤ most_output
  unfolding program_of
  program-short = by_size (leb (length s) most_input) (first_line s)
    where
      by_size : (b : Bool) (x : Option Job)
          → length (cond b (done_or_malformed x) (refused_line text_too_long)) ≤ most_output
      by_size false x = refused-short text_too_long
      by_size true none = refused-short outside_bounds
      by_size true (some j) = done-short j

  -- what is put at the start of the output is laid over it
  pub written : {text : List ℕ} → program_of s ≡ text → {r : ℕ} {out after : List ℕ} → most_output ≤ length out
      → Puts out 0 text r after
      → Lays (program_of s) out r after × IsPrefixLen r after
  written {text} is {r} {out} {after} room put =
      let short : length text ≤ most_output = rw is at program-short in
      let inside : r ≤ length after = omega (arith, put.reached, puts-length text put) in (
        rw is (ap₂ (λ k bytes. (k, bytes)) (put.reached ∙ zero-add (length text))
            (put.stored ∙ laid text out (omega arith))),
        (inside, sym (length-take-le r after inside)),
      )

-- an input that is too long
module _ (s out : List ℕ) (long : most_input < length s) (room : most_output ≤ length out) where
  pub long_laid : laid_over (program_of s) out ≡ sets out 0 (refused_line text_too_long)
  long_laid = rw (too_long s long) (sym (laid (refused_line text_too_long) out (omega (arith, refused-short text_too_long))))

module _ {out after : List ℕ} {r : ℕ} (put : Puts out 0 (refused_line text_too_long) r after)
    (room : most_output ≤ length out) where
  pub refusal_within : r ≤ length after
  refusal_within =
      omega (
        arith,
        put.reached,
        puts-length (refused_line text_too_long) put,
        refused-short text_too_long,
      )

  pub refusal_taken : r ≡ length (take r after)
  refusal_taken = sym (length-take-le r after refusal_within)

pub ruleset long_told = (too_long, long_laid, refusal_within, refusal_taken)
