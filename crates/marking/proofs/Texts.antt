-- The text of a term within the cap: it is printed into the output's part from a place on, and so put at that place.
use Prim.Native.Nat.{ℕ, ◌+◌, ◌-◌, ◌≤◌}
use mathlib.Core.Path.{◌≡◌, sym, ap, ◌∙◌}
use mathlib.Core.List.{List, [], append_assoc, append-nil}
use native.Mathlib.Omega.{arith}
use lib.ListN.{length, take, drop, length-drop, drop_of_length-le}
use lib.Seq.{sets, sets-eq, take_all, drop-drop}
use borrow.Author.Tests.{le-leb}
use borrow.Rule.Slice.PartMut.{mid_of, put_mid}
use Rattle.calculus.specs.Term.{Term}
use Rattle.calculus.specs.Bounds.{program_cap, most_nodes}
use Rattle.calculus.specs.Refusal.{given}
use Rattle.calculus.specs.Reading.{Notation}
use Rattle.calculus.specs.Writing.{write_text}
use Rattle.calculus.specs.Outcomes.{checked, laid_over, print_of}
use Rattle.calculus.proofs.Judged.{checked-given, checked_more}
use Rattle.calculus.proofs.Putting.{Puts}
use Rattle.calculus.proofs.Shown.{text-length}
use Rattle.std.specs.Prelude.{Result, Ok, Err}
use Rattle.term.specs.Answers.{told}
use Rattle.term.specs.declared.Refusal.{Refusal}
use Rattle.marking.specs.Working.{most_term, Printable}

pub text-short : (n : Notation) (s : List ℕ) {t : Term} → checked program_cap s ≡ given t
    → length (write_text n t) ≤ most_term
text-short n s {t} passes = let (_, _, few) = checked-given s passes in omega (arith, text-length n t)

-- THE PART OF A LIST from a place on, which is lent
abbrev part : List ℕ → ℕ → List ℕ
part out to = mid_of to (length out - to) out

-- and the list once the part is back
abbrev put_back : List ℕ → ℕ → List ℕ → List ℕ
put_back out to after = put_mid to (length out - to) out after

module _ (out : List ℕ) (to : ℕ) where
  pub part-is : part out to ≡ drop to out
  part-is = take_all (length out - to) (drop to out) (omega (arith, length-drop to out))

  part_length : length (part out to) ≡ length out - to
  part_length = ap length part-is ∙ length-drop to out

  nothing-after : drop (length out - to) (drop to out) ≡ []
  nothing-after = drop_of_length-le (drop to out) {i = length out - to} (omega (arith, length-drop to out))

  -- what is laid over it is put at the place
  laid_in_part : (text : List ℕ) → to + length text ≤ length out
      → put_back out to (laid_over text (part out to)) ≡ sets out to text
  laid_in_part text fits =
      rw (part-is, nothing-after, append-nil, drop-drop (length text) to out, sets-eq text out to fits)
      (sym (append_assoc (take to out) text (drop (to + length text) out)))

-- PRINTING INTO IT
module _ (n : Notation) {s out : List ℕ} {to : ℕ} (asks : Printable s to out) where
  printed : {t : Term} → checked program_cap s ≡ given t
      → print_of n s (part out to) ≡ (given (length (write_text n t)), laid_over (write_text n t) (part out to))
  unfolding print_of
  printed {t} passes =
      let text : List ℕ = write_text n t in
      let short : length text ≤ most_term = text-short n s passes in
      let fits : length text ≤ length (part out to) = omega (arith, part_length out to, asks.room) in
      rw (checked_more {cap' = most_nodes} s (omega arith) passes, le-leb (length text) (length (part out to)) fits)

  module _ {r : Result ℕ Refusal} {after : List ℕ} (says : (told r, after) ≡ print_of n s (part out to)) where
    printed_so : {k : ℕ} → r ≡ Ok k → {t : Term} → checked program_cap s ≡ given t
        → (k ≡ length (write_text n t)) × (after ≡ laid_over (write_text n t) (part out to))
    printed_so is passes = let same = rw is at says ∙ printed passes in (cc (ap (λ x. x.0) same), ap (λ x. x.1) same)

    pub inside : {k : ℕ} → r ≡ Ok k → to + k ≤ length out
    inside is = omega (arith, (printed_so is asks.passes).0, text-short n s asks.passes, asks.room)

    pub text-put : {k : ℕ} → r ≡ Ok k → (t : Term) → checked program_cap s ≡ given t
        → Puts out to (write_text n t) (to + k) (put_back out to after)
    text-put is t passes =
        let (long, stands) = printed_so is passes in
        record {
          reached = ap (λ k. to + k) long;
          stored = rw stands (laid_in_part out to (write_text n t) (omega (arith, inside is)));
        }

    -- there is room for it
    pub not-refused : {why : Refusal} → r ≡ Err why → ⊥
    not-refused is =
        let same = ap (λ x. x.0) (rw is at says ∙ printed asks.passes) in
        let never : ◌≡◌ {A = ℕ} 0 1 = cc in
        omega arith
