-- From the walk to what `print` answers: the text of the whole term, whether it fits, and the slice afterwards.
use Prim.Native.Nat.{ℕ, ◌*◌, ◌≤◌, ◌<◌}
use mathlib.Core.Path.{◌≡◌, refl, sym, ap, ap₂, ◌∙◌}
use mathlib.Core.Bool.{Bool, true, false, cond}
use mathlib.Core.List.{List}
use native.Mathlib.Omega.{arith}
use native.Mathlib.Nat.{zero-add}
use lib.Dec.{leb}
use lib.ListN.{length}
use borrow.Author.Tests.{leb-true, le-leb, lt-leb}
use Rattle.calculus.specs.Term.{Term}
use Rattle.calculus.specs.Bounds.{most_nodes, most_height}
use Rattle.calculus.specs.Refusal.{given}
use Rattle.calculus.specs.Queries.{max_depth}
use Rattle.calculus.specs.Writing.{characters_written, write_text}
use Rattle.calculus.specs.Outcomes.{checked, print_of}
use Rattle.calculus.proofs.Coding.{AllBytes}
use Rattle.calculus.proofs.Judged.{checked-given}
use Rattle.calculus.proofs.Putting.{laid, puts-length}
use Rattle.calculus.proofs.Shown.{text-length}
use Rattle.term.specs.Answers.{told, check_of}
use Rattle.term.specs.FactsOf.{facts_of}
use Rattle.term.specs.Notations.{notation_of}
use Rattle.term.specs.Surveys.{Stands}
use Rattle.term.specs.declared.Facts.{Facts}
use Rattle.term.specs.declared.Notation.{Notation}
use Rattle.term.specs.declared.Refusal.{Refusal}
use Rattle.term.specs.declared.Refusal.TheVariants.{OutputTooShort}
use Rattle.std.specs.Prelude.{Option, Some, Result, Ok, Err, IsErrAnd}
use Rattle.term.proofs.Checking.{decoded_stands, check-whole, check-refused, handed_on}
use Rattle.printer.specs.Parts.{part_text, Writable}
use Rattle.printer.specs.Printing.{StyleOf, Printable, Measures, Fitting, Prints}
use Rattle.printer.specs.Writers.{WritesWhole}
use Rattle.printer.specs.Gauges.{style_by, GaugedWhole, GaugesWhole}
use Rattle.printer.specs.declared.gauging.Gauge.{Gauge}
use Rattle.printer.specs.declared.pieces.Style.{Style}
use Rattle.printer.specs.declared.Part.TheVariants.{Whole}

-- the text of a term in a style
abbrev text_in : Style → Term → List ℕ
text_in w t = write_text (notation_of w.notation) t

-- which the walk over the whole term writes, where the style is the term's
pub whole-text : (w : Style) (t : Term) → w.most ≡ max_depth t → part_text w 0 Whole t ≡ text_in w t
unfolding part_text write_text characters_written
whole-text w t e = rw e

module _ {w : Style} {plenty : ℕ} {s : List ℕ} (p : Printable w plenty s) where
  pub whole-writable : Writable w s 0 0 Whole 0 most_height
  whole-writable =
      let t = p.term in
      let text = ap length (whole-text w t p.style.deep) in
      record {
        term = t;
        stands = p.stands;
        low = p.low;
        shallow = omega (arith, p.low);
        countable = omega (arith, text, text-length (notation_of w.notation) t, p.few);
      }

-- WHAT A WHOLE TERM LEAVES: a slice as long as before, and the same wherever its place and its bytes are told
module _ {w : Style} {s before : List ℕ} {from to : ℕ} {after : List ℕ} where
  pub whole_length : {room : ℕ} → Writable w s 0 0 Whole from room → WritesWhole w s before from to after
      → length after ≡ length before
  whole_length asked wrote = puts-length (part_text w 0 Whole asked.term) (wrote.puts asked.term asked.stands)

  pub written_to : {place : ℕ} {last : List ℕ} → WritesWhole w s before from to after → place ≡ to → last ≡ after
      → WritesWhole w s before from place last
  written_to wrote e k = rw (e, k) wrote

-- WHETHER IT FITS
abbrev Fit : Type 0
Fit = Result (Unit {0}) Refusal

module _ (w : Style) (plenty : ℕ) (s : List ℕ) (room : ℕ) where
  pub spacious : plenty ≤ room → Fitting w plenty s room (Ok tt)
  spacious h = record {
    fitting = λ t st e. rw (le-leb (length (text_in w t)) room (omega (arith, e.short)));
  }

  module _ {needed : ℕ} (measured : Measures w s needed) where
    text-measured : (t : Term) → Stands s 0 t → StyleOf w plenty t → needed ≡ length (text_in w t)
    text-measured t st e = measured.measured t st ∙ ap length (whole-text w t e.deep)

    pub enough : needed ≤ room → Fitting w plenty s room (Ok tt)
    enough h = record {
      fitting = λ t st e. rw (le-leb (length (text_in w t)) room (omega (arith, text-measured t st e)));
    }

    pub too_long : room < needed → Fitting w plenty s room (Err (OutputTooShort needed))
    too_long h = record {
      fitting = λ t st e.
          let same = text-measured t st e in
          rw (lt-leb (length (text_in w t)) room (omega (arith, same))) (ap (λ n. Err (OutputTooShort n)) same);
    }

-- the text is as long as it is measured
pub measured_length : (w : Style) (t : Term) → w.most ≡ max_depth t
    → length (write_text (notation_of w.notation) t) ≡ length (part_text w 0 Whole t)
measured_length w t e = ap length (sym (whole-text w t e))

-- what the answer tells of the test
fits_so : (b : Bool) (length : ℕ) → ◌≡◌ {A = Fit} (Ok tt) (cond b (Ok tt) (Err (OutputTooShort length))) → b ≡ true
fits_so true length e = refl
fits_so false length e = let never : ◌≡◌ {A = ℕ} 0 1 = cc in absurd (omega arith)

-- WHAT A WHOLE TERM COMES TO where its text fits
module _ {w : Style} {plenty : ℕ} {s out : List ℕ} {fit : Fit} (fits : Fitting w plenty s (length out) fit) where
  pub prints : {to : ℕ} {after : List ℕ} → fit ≡ Ok tt → WritesWhole w s out 0 to after
      → Prints w plenty s out (Ok to) after
  prints k write = record {
    printed = λ t st e.
        let text = text_in w t in
        let long = length text in
        let within = fits_so (leb long (length out)) long (sym k ∙ fits.fitting t st e) in
        let put = rw (whole-text w t e.deep) at (write.puts t st) in
        let after_so = put.stored ∙ laid text out (leb-true long (length out) within) in
        rw within (ap₂ (λ a b. (given a, b)) (put.reached ∙ zero-add long) after_so);
  }

-- WHAT PRINT ANSWERS: the text of a term that is let through, by whoever found its style
module _ {w : Style} {plenty : ℕ} (s : List ℕ) {t : Term} (passes : checked most_nodes s ≡ given t)
    (bytes : AllBytes s) (style : StyleOf w plenty t) where
  pub passed-printable : Printable w plenty s
  passed-printable =
      let (decoded, low, few) = checked-given s passes in
      record { term = t; stands = decoded_stands s bytes decoded; style = style; low = low; few = few }

  pub printed-passed : {out : List ℕ} {p : Result ℕ Refusal} {after : List ℕ} → Prints w plenty s out p after
      → (told p, after) ≡ print_of (notation_of w.notation) s out
  unfolding print_of
  printed-passed print = rw passes (print.printed t (decoded_stands s bytes (checked-given s passes).0) style)

-- after a check
module _ (n : Notation) (s : List ℕ) {r : Result Facts Refusal} (says : told r ≡ check_of most_nodes s) where
  pub input_told : (out : List ℕ) {why : Refusal} → r ≡ Err why
      → (told {A = ℕ} (Err why), out) ≡ print_of (notation_of n) s out
  unfolding print_of
  input_told out e = rw (check-refused most_nodes s says e) refl

  pub refuses-input : (out : List ℕ) (p : Result ℕ Refusal) {why : Refusal} → IsErrAnd p (λ y. y ≡ why) → r ≡ Err why
      → (told p, out) ≡ print_of (notation_of n) s out
  refuses-input out p h e = ap (λ a. (a, out)) (handed_on p _ h) ∙ input_told out e

  module _ {f : Facts} (e : r ≡ Ok f) where
    pub few-nodes : f.nodes ≤ most_nodes
    unfolding facts_of
    few-nodes =
        let t = check-whole most_nodes s says e in
        omega (arith, ap (λ f. f.nodes) t.same, (checked-given s t.let_through).2)

    facts_style : {t : Term} → f ≡ facts_of 0 t → StyleOf (style_by n f.depth) (f.nodes * 20) t
    unfolding facts_of
    facts_style {t} k = record {
      deep = ap (λ f. f.depth) k;
      short = omega (arith, text-length (notation_of n) t, ap (λ f. f.nodes) k);
    }

    module _ (bytes : AllBytes s) where
      pub checked-printable : Printable (style_by n f.depth) (f.nodes * 20) s
      checked-printable =
          let t = check-whole most_nodes s says e in
          passed-printable s t.let_through bytes (facts_style t.same)

      pub printed-checked : {out : List ℕ} {p : Result ℕ Refusal} {after : List ℕ}
          → Prints (style_by n f.depth) (f.nodes * 20) s out p after
          → (told p, after) ≡ print_of (notation_of n) s out
      printed-checked print =
          let t = check-whole most_nodes s says e in
          printed-passed s t.let_through bytes (facts_style t.same) print

-- what closes the goals of `print_checked`
pub ruleset checking = (input_told, few-nodes, checked-printable, printed-checked)

-- after the walk that knows a term
module _ (n : Notation) (s : List ℕ) {r : Option Gauge} (says : GaugesWhole n s r) {g : Gauge} (e : r ≡ Some g)
    (bytes : AllBytes s) where
  gauged-style : (w : GaugedWhole n s g.most g.plenty) → StyleOf (style_by n g.most) g.plenty w.term
  gauged-style w = record { deep = w.deep; short = w.short }

  pub gauged-printable : Printable (style_by n g.most) g.plenty s
  gauged-printable =
      let w = says.whole e in
      passed-printable s w.passes bytes (gauged-style w)

  pub printed-gauged : {out : List ℕ} {p : Result ℕ Refusal} {after : List ℕ}
      → Prints (style_by n g.most) g.plenty s out p after
      → (told p, after) ≡ print_of (notation_of n) s out
  printed-gauged print =
      let w = says.whole e in
      printed-passed s w.passes bytes (gauged-style w) print
