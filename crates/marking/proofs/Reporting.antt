-- How a run is reported: what `reduce` answered and stored of it, and the lines that are written.
use Prim.Native.Nat.{ℕ, ◌*◌, ◌≤◌}
use mathlib.Core.Path.{◌≡◌, refl, ap}
use mathlib.Core.Bool.{true}
use mathlib.Core.List.{List}
use native.Mathlib.Omega.{arith}
use lib.ListN.{length, take}
use Rattle.calculus.specs.Term.{Term}
use Rattle.calculus.specs.Bounds.{output_per_node, room_per_node, program_cap}
use Rattle.calculus.specs.Bytes.{encode}
use Rattle.calculus.specs.Numbers.{numeral}
use Rattle.calculus.specs.Characters.{codes}
use Rattle.calculus.specs.Refusal as calculus
use Rattle.calculus.specs.Refusal.{given}
use Rattle.calculus.specs.Orders.{Order}
use Rattle.calculus.specs.Runs.{Run, finished, unfinished, refused_after}
use Rattle.calculus.specs.Reading.{Notation}
use Rattle.calculus.specs.Writing.{write_text}
use Rattle.calculus.specs.Outcomes.{checked, laid_over, stored_run, limit_allowed, reduced, reduce_of}
use Rattle.calculus.specs.Program.{report, refused_line}
use Rattle.calculus.proofs.Putting.{Puts}
use Rattle.term.specs.Answers.{refusal_of}
use Rattle.nodes.specs.Answers.{ended, run_told}
use Rattle.nodes.specs.declared.runs.End.{End}
use Rattle.std.specs.Prelude.{Result, Ok, Err}
use Rattle.nodes.specs.declared.runs.End.TheVariants.{Finished, Unfinished}
use Rattle.nodes.specs.declared.runs.Run as answer
use Rattle.nodes.specs.declared.runs.Stopped.{Stopped}
use Rattle.marking.specs.Working.{most_line, most_output, Printable, Reports}
use Rattle.marking.proofs.Passing.{Passes, checked-passes, Reaches, at_end, at_limit, nowhere, run-reaches}
use Rattle.marking.proofs.Storing.{suffices, worked, Stands, stands}

-- A RUN THAT REACHED A TERM within the cap, whose bytes stand first in a buffer
pub record Found (run : Run Term) (end : Term → Run Term) (k : ℕ) (buffer : List ℕ) : Type 0 where
  pub term : Term
  pub ends : run ≡ end term
  pub inside : k ≤ length buffer
  pub passes : checked program_cap (take k buffer) ≡ given term

found : {run : Run Term} {end : Term → Run Term} {k : ℕ} {buffer : List ℕ} (u : Term) → run ≡ end u → Passes u
    → Stands u k buffer
    → Found run end k buffer
found u ends passes at_start =
    record { term = u; ends = ends; inside = at_start.inside; passes = rw at_start.bytes passes }

-- WHAT IS STORED of a run, and answered
data Stored (out : List ℕ) : Run Term → Run ℕ → List ℕ → Type 0 where
  stored_end : {n : ℕ} {u : Term} → Passes u
      → Stored out (finished n u) (finished n (length (encode u))) (laid_over (encode u) out)
  stored_limit : {n : ℕ} {u : Term} → Passes u
      → Stored out (unfinished n u) (unfinished n (length (encode u))) (laid_over (encode u) out)
  stored_nothing : {n : ℕ} {e : calculus.Refusal} → Stored out (refused_after n e) (refused_after n e) out

stored : (out : List ℕ) {run : Run Term} → Reaches run
    → let r = stored_run run out in Stored out run r.0 r.1
stored out (at_end p) = stored_end p
stored out (at_limit p) = stored_limit p
stored out nowhere = stored_nothing

found-finished : {out after : List ℕ} {run : Run Term} {n k : ℕ} → Stored out run (finished n k) after
    → Found run (finished n) k after
found-finished {out} (stored_end {u = u} p) = found u refl p (stands u out refl refl)

found-unfinished : {out after : List ℕ} {run : Run Term} {n k : ℕ} → Stored out run (unfinished n k) after
    → Found run (unfinished n) k after
found-unfinished {out} (stored_limit {u = u} p) = found u refl p (stands u out refl refl)

found-refused : {out after : List ℕ} {run : Run Term} {n : ℕ} {e : calculus.Refusal}
    → Stored out run (refused_after n e) after → run ≡ refused_after n e
found-refused stored_nothing = refl

-- WHAT `reduce` ANSWERS, once it is neither 1 nor 2
module _ (o : Order) (limit : ℕ) (s out room : List ℕ) (allowed : limit_allowed limit ≡ true)
    (output : output_per_node * program_cap ≤ length out) (work : room_per_node * program_cap ≤ length room) where
  abbrev run : Run Term
  run = reduced o limit program_cap s

  reaches : Reaches run
  unfolding reduced
  reaches = run-reaches o limit (checked program_cap s) (λ t e. checked-passes s e)

  answered : {told : Run ℕ} {after left : List ℕ} → (told, after, left) ≡ reduce_of o limit program_cap s out room
      → Stored out run told after
  unfolding reduce_of
  answered says =
      let done = worked (refused_after 0) program_cap (stored_run run out) out room allowed
      (suffices out room output work) says in
      rw (ap (λ x. x.0) done, ap (λ x. x.1) done) (stored out reaches)

  module _ {r : Result answer.Run Stopped} {after left : List ℕ}
      (says : (run_told r, after, left) ≡ reduce_of o limit program_cap s out room) where
    pub found_at : {reached : answer.Run} → r ≡ Ok reached
        → Found run (ended reached.end reached.steps) reached.length after
    unfolding run_told
    found_at {reached} is = by_end reached.end refl
      where
        by_end : (end : End) → reached.end ≡ end → Found run (ended reached.end reached.steps) reached.length after
        by_end Finished e = rw e (found-finished (rw (is, e) at (answered says)))
        by_end Unfinished e = rw e (found-unfinished (rw (is, e) at (answered says)))

    pub refused_at : {stopped : Stopped} → r ≡ Err stopped → run ≡ refused_after stopped.steps (refusal_of stopped.why)
    unfolding run_told
    refused_at is = found-refused (rw is at (answered says))

-- there is room for the term after a line
pub found-fits : {run : Run Term} {end : Term → Run Term} {k : ℕ} {buffer : List ℕ} (out : List ℕ)
    → Found run end k buffer → most_output ≤ length out
    → Printable (take k buffer) most_line out
found-fits out f enough = record { term = f.term; passes = f.passes; room = omega arith }

-- THE LINES
module _ (n : Notation) {run : Run Term} {k steps r : ℕ} {buffer out after : List ℕ} where
  pub finished_reported : Found run (finished steps) k buffer
      → Reports (codes "finished") steps n (take k buffer) out r after
      → Puts out 0 (report n run) r after
  unfolding codes numeral write_text
  finished_reported found reports = rw found.ends (reports found.term found.passes)

  pub unfinished_reported : Found run (unfinished steps) k buffer
      → Reports (codes "unfinished") steps n (take k buffer) out r after
      → Puts out 0 (report n run) r after
  unfolding codes numeral write_text
  unfinished_reported found reports = rw found.ends (reports found.term found.passes)

pub refused_reported : (n : Notation) {run : Run Term} {steps r : ℕ} {e : calculus.Refusal} {out after : List ℕ}
    → run ≡ refused_after steps e → Puts out 0 (refused_line e) r after
    → Puts out 0 (report n run) r after
unfolding codes numeral write_text
refused_reported n ends put = rw ends put
