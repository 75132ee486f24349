-- How long the pieces of a text are at most, and the text of a part by its pieces.
use Prim.Native.Nat.{ℕ, ◌+◌, ◌-◌, ◌/◌, ◌≤◌, ◌<◌, min}
use mathlib.Core.Path.{◌≡◌, ap, ◌∙◌}
use mathlib.Core.Bool.{Bool, true, false, cond}
use mathlib.Core.List.{List, [], ◌∷◌, ◌++◌, append-nil}
use native.Mathlib.Omega.{arith}
use lib.ListN.{length, length-append}
use Rattle.calculus.specs.Term.{Term, var, lam, app}
use Rattle.calculus.specs.Bounds.{greatest_number}
use Rattle.calculus.specs.Writing.{index_text, name_text, text_of_variable}
use Rattle.calculus.proofs.Shown.{bytes_shown, length_shown, shown_name}
use Rattle.term.specs.declared.Notation.{Notation}
use Rattle.term.specs.declared.Notation.TheVariants.{DeBruijn, Classic}
use Rattle.printer.specs.Pieces.{variable_of, binder_of, gap_of}
use Rattle.printer.specs.Parts.{groups_lam, groups_app, part_text}
use Rattle.printer.specs.Gauges.{style_by, VariableRoom, BinderRoom}
use Rattle.printer.specs.declared.pieces.Style.{Style}
use Rattle.printer.specs.declared.Part.{Part}
use Rattle.printer.specs.declared.Part.TheVariants.{Whole, Left, Right}
use Rattle.printer.proofs.Naming.{name_of_one, name_longer, variable-zero, variable-bound, variable_free}
use Rattle.printer.proofs.Naming.{binder-de_bruijn, binder-classic-length}
use Rattle.printer.proofs.PartTexts.{opening, closing, text_of_var, lam-part, app-part, whole-lam, whole-app}

-- A NAME
pub one_letter : (k : ℕ) → k < 26 → length (name_text k) ≤ 1
one_letter k h = omega (arith, ap length (name_of_one k h))

pub two_letters : (k : ℕ) → 26 ≤ k → k < 702 → length (name_text k) ≤ 2
two_letters k h few = omega (arith, name_longer k h (omega arith), one_letter (k / 26 - 1) (omega arith))

pub most-letters : (k : ℕ) → length (name_text k) ≤ 14
most-letters k = omega (arith, length_shown (shown_name {signs = false} k), ap length (bytes_shown (shown_name k)))

-- A VARIABLE
module _ {n : Notation} {d i r : ℕ} where
  pub index-covers : n ≡ DeBruijn → (length (index_text i) ≤ r) × (r ≤ 18) → VariableRoom n d i r
  unfolding text_of_variable
  index-covers e (covers, small) = record { covers = λ m. rw e covers; small = small }

  pub name-covers : n ≡ Classic → (i ≡ 0 → ⊥) → i ≤ d → (length (name_text (d - i)) ≤ r) × (r ≤ 14)
      → VariableRoom n d i r
  unfolding text_of_variable
  name-covers e some bound (covers, small) =
      record { covers = λ m. rw (e, variable-bound m d i some bound) covers; small = omega arith }

module _ {n : Notation} {d i : ℕ} (e : n ≡ Classic) where
  pub undefined_covers : i ≡ 0 → VariableRoom n d i 9
  unfolding text_of_variable
  undefined_covers z = record {
    covers = λ m. rw (e, z) (omega (arith, ap length (variable-zero m d)));
    small = omega arith;
  }

  pub free_covers : d < i → VariableRoom n d i 14
  unfolding text_of_variable
  free_covers free = record {
    covers = λ m. rw (e, variable_free m d i free) (most-letters (min (m + (i - d)) greatest_number - 1));
    small = omega arith;
  }

-- A BINDER
module _ {n : Notation} {d : ℕ} where
  pub sign-covers : n ≡ DeBruijn → BinderRoom n d 2
  sign-covers e = record {
    covers = λ m. omega (arith, ap length (binder-de_bruijn (style_by n m) d e));
    small = omega arith;
  }

  pub named-covers : {r : ℕ} → n ≡ Classic → (length (name_text d) ≤ r) × (r ≤ 14) → BinderRoom n d (r + 3)
  named-covers e (covers, small) =
      record { covers = λ m. omega (arith, binder-classic-length (style_by n m) d e); small = omega arith }

-- A PART, by what stands between its parentheses, if it has any
around : (g : Bool) (xs : List ℕ) → length (opening g ++ (xs ++ closing g)) ≡ cond g 2 0 + length xs
around true xs = omega (arith, length-append xs (41 ∷ []))
around false xs = ap length (append-nil xs) ∙ omega arith

module _ (w : Style) (d : ℕ) (part : Part) where
  pub length-var : (i : ℕ) → length (part_text w d part (var i)) ≡ length (variable_of w d i)
  length-var i = ap length (text_of_var w d part i)

  pub length-lam : (b : Term)
      → length (part_text w d part (lam b))
      ≡ cond (groups_lam part) 2 0 + (length (binder_of w d) + length (part_text w (d + 1) Whole b))
  length-lam b =
      let inner = ap length (whole-lam w d b) ∙ length-append (binder_of w d) (part_text w (d + 1) Whole b) in
      ap length (lam-part w d part b) ∙ around (groups_lam part) (part_text w d Whole (lam b)) ∙ rw inner

  pub length_app : (l r : Term)
      → length (part_text w d part (app l r))
      ≡ cond (groups_app part) 2 0
      + (length (part_text w d Left l) + (length (gap_of w) + length (part_text w d Right r)))
  length_app l r =
      let right : List ℕ = part_text w d Right r in
      let inner = ap length (whole-app w d l r) ∙ length-append (part_text w d Left l) (gap_of w ++ right)
      ∙ ap (λ k. length (part_text w d Left l) + k) (length-append (gap_of w) right) in
      ap length (app-part w d part l r) ∙ around (groups_app part) (part_text w d Whole (app l r)) ∙ rw inner
