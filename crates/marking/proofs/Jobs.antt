-- What the job of a first line comes to: 1 for the limit, the refusal of the text, or the run of its term.
use Prim.Native.Nat.{ℕ, ◌*◌, ◌≤◌}
use mathlib.Core.Path.{◌≡◌, refl, ap}
use mathlib.Core.Bool.{true, false}
use mathlib.Core.List.{List}
use lib.ListN.{length, take}
use Rattle.calculus.specs.Term.{Term}
use Rattle.calculus.specs.Bounds.{output_per_node, room_per_node, program_cap}
use Rattle.calculus.specs.Bytes.{encode}
use Rattle.calculus.specs.Numbers.{numeral}
use Rattle.calculus.specs.Characters.{codes}
use Rattle.calculus.specs.Refusal as calculus
use Rattle.calculus.specs.Refusal.{Answer, given, refused, ◌then◌, outside_bounds}
use Rattle.calculus.specs.Orders.{Order}
use Rattle.calculus.specs.Runs.{refused_after}
use Rattle.calculus.specs.Reading.{Notation, read_text}
use Rattle.calculus.specs.Writing.{write_text}
use Rattle.calculus.specs.Outcomes.{laid_over, stored, coded, limit_allowed, reduced, parse_of}
use Rattle.calculus.specs.Program.{job, report, comes_to, done, refused_line}
use Rattle.calculus.proofs.Putting.{Puts}
use Rattle.term.specs.Answers.{refusal_of, told}
use Rattle.term.specs.declared.Refusal.{Refusal}
use Rattle.std.specs.Prelude.{Result, Ok, Err}
use Rattle.marking.proofs.Passing.{read-passes}
use Rattle.marking.proofs.Storing.{suffices, worked, Stands, stands}
use Rattle.marking.proofs.Reporting.{refused_reported}

-- WHAT `parse` ANSWERS, once it is neither 1 nor 2
data Coded (out : List ℕ) : Answer Term → Answer ℕ → List ℕ → Type 0 where
  coded_term : {t : Term} → Coded out (given t) (given (length (encode t))) (laid_over (encode t) out)
  no_term : {e : calculus.Refusal} → Coded out (refused e) (refused e) out

coded_as : (out : List ℕ) (x : Answer Term) → let r = stored (x then coded) out in Coded out x r.0 r.1
coded_as out (given t) = coded_term
coded_as out (refused e) = no_term

-- the term that was read, whose bytes stand first
pub record Read (x : Answer Term) (k : ℕ) (buffer : List ℕ) : Type 0 where
  pub term : Term
  pub reads : x ≡ given term
  pub at_start : Stands term k buffer

read-given : {out after : List ℕ} {x : Answer Term} {k : ℕ} → Coded out x (given k) after → Read x k after
read-given {out} (coded_term {t = t}) = record { term = t; reads = refl; at_start = stands t out refl refl }

read-refused : {out after : List ℕ} {x : Answer Term} {e : calculus.Refusal} → Coded out x (refused e) after
    → x ≡ refused e
read-refused no_term = refl

module _ (n : Notation) (text out room : List ℕ) (output : output_per_node * program_cap ≤ length out)
    (work : room_per_node * program_cap ≤ length room) where
  answered : {told : Answer ℕ} {after left : List ℕ} → (told, after, left) ≡ parse_of n program_cap text out room
      → Coded out (read_text n program_cap text) told after
  unfolding parse_of
  answered says =
      let done = worked refused program_cap (stored (read_text n program_cap text then coded) out) out room refl
      (suffices out room output work) says in
      rw (ap (λ x. x.0) done, ap (λ x. x.1) done) (coded_as out (read_text n program_cap text))

  module _ {r : Result ℕ Refusal} {after left : List ℕ}
      (says : (told r, after, left) ≡ parse_of n program_cap text out room) where
    pub given_at : {k : ℕ} → r ≡ Ok k → Read (read_text n program_cap text) k after
    given_at is = read-given (rw is at (answered says))

    pub refused_at : {why : Refusal} → r ≡ Err why → read_text n program_cap text ≡ refused (refusal_of why)
    refused_at is = read-refused (rw is at (answered says))

-- THE RUN OF A JOB, which is reported
module _ (o : Order) (limit : ℕ) (n : Notation) (text : List ℕ) where
  refused-done : {e : calculus.Refusal} {r : ℕ} {out after : List ℕ} → comes_to (job o limit n text) ≡ refused_after 0 e
      → Puts out 0 (refused_line e) r after
      → Puts out 0 (done (job o limit n text)) r after
  unfolding codes numeral write_text
  refused-done ends put = refused_reported n ends put

  pub limit-refused : limit_allowed limit ≡ false → {r : ℕ} {out after : List ℕ}
      → Puts out 0 (refused_line outside_bounds) r after → Puts out 0 (done (job o limit n text)) r after
  unfolding comes_to
  limit-refused e put = refused-done (rw e) put

  module _ (allowed : limit_allowed limit ≡ true) {r : ℕ} {out after : List ℕ} where
    pub text-refused : {e : calculus.Refusal} → read_text n program_cap text ≡ refused e
        → Puts out 0 (refused_line e) r after → Puts out 0 (done (job o limit n text)) r after
    unfolding comes_to
    text-refused reads put = refused-done (rw (allowed, reads)) put

    pub text-run : {k : ℕ} {buffer : List ℕ} → Read (read_text n program_cap text) k buffer
        → Puts out 0 (report n (reduced o limit program_cap (take k buffer))) r after
        → Puts out 0 (done (job o limit n text)) r after
    unfolding reduced comes_to codes numeral write_text
    text-run read put =
        rw (allowed, read.reads) (rw (read.at_start.bytes, read-passes n text read.reads) at put)
