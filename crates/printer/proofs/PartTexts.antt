-- The text of a part from its head and the texts of its own parts, which is the sequence that the walk writes.
use Prim.Native.Nat.{ℕ, suc, ◌+◌}
use mathlib.Core.Path.{◌≡◌, refl, sym, ap, ◌∙◌}
use mathlib.Core.Bool.{Bool, true, false, cond}
use mathlib.Core.List.{List, [], ◌∷◌, ◌++◌, append_assoc, append-nil}
use native.Mathlib.Nat.{add-zero}
use native.Mathlib.Numerals.{add-one}
use lib.ListN.{length, replicate}
use Rattle.calculus.specs.Term.{Term, var, lam, app}
use Rattle.calculus.specs.Characters.{spelled, bytes}
use Rattle.calculus.specs.Writing.{as_left, as_right, written}
use Rattle.calculus.proofs.Shown.{bytes_shown, shown_variable_of, shown_gap}
use Rattle.term.specs.Notations.{notation_of}
use Rattle.printer.specs.Pieces.{layout_of, variable_of, binder_of, gap_of}
use Rattle.printer.specs.Parts.{groups_lam, groups_app, part_text}
use Rattle.printer.specs.declared.pieces.Style.{Style}
use Rattle.printer.specs.declared.Part.{Part}
use Rattle.printer.specs.declared.Part.TheVariants.{Whole, Left, Right}

pub bytes_append : (xs ys : List ℕ) → bytes (xs ++ ys) ≡ bytes xs ++ bytes ys
unfolding bytes
bytes_append [] ys = refl
bytes_append (x ∷ xs) ys =
    ap (λ b. spelled x ++ b) (bytes_append xs ys) ∙ sym (append_assoc (spelled x) (bytes xs) (bytes ys))

abbrev pub opening : Bool → List ℕ
opening b = cond b (40 ∷ []) []

abbrev pub closing : Bool → List ℕ
closing b = cond b (41 ∷ []) []

module _ (w : Style) (d : ℕ) where
  pub text_of_var : (part : Part) (i : ℕ) → part_text w d part (var i) ≡ variable_of w d i
  unfolding part_text
  text_of_var Whole i = bytes_shown (shown_variable_of (notation_of w.notation) w.most d i)
  text_of_var Left i = bytes_shown (shown_variable_of (notation_of w.notation) w.most d i)
  text_of_var Right i = bytes_shown (shown_variable_of (notation_of w.notation) w.most d i)

  -- the bytes of a text in parentheses
  grouped-bytes : (xs : List ℕ) → bytes (40 ∷ (xs ++ (41 ∷ []))) ≡ 40 ∷ (bytes xs ++ (41 ∷ []))
  unfolding bytes
  grouped-bytes xs = ap (λ b. 40 ∷ b) (bytes_append xs (41 ∷ []))

  -- parentheses, where there are any, around the bytes of the whole
  pub lam-part : (part : Part) (b : Term)
      → part_text w d part (lam b)
      ≡ opening (groups_lam part) ++ (part_text w d Whole (lam b) ++ closing (groups_lam part))
  unfolding part_text
  lam-part Whole b = sym (append-nil _)
  lam-part Left b = grouped-bytes (written (layout_of w) d (lam b))
  lam-part Right b = grouped-bytes (written (layout_of w) d (lam b))

  pub app-part : (part : Part) (l r : Term)
      → part_text w d part (app l r)
      ≡ opening (groups_app part) ++ (part_text w d Whole (app l r) ++ closing (groups_app part))
  unfolding part_text
  app-part Whole l r = sym (append-nil _)
  app-part Left l r = sym (append-nil _)
  app-part Right l r = grouped-bytes (written (layout_of w) d (app l r))

  pub whole-lam : (b : Term) → part_text w d Whole (lam b) ≡ binder_of w d ++ part_text w (d + 1) Whole b
  unfolding part_text binder_of
  whole-lam b = rw add-one (bytes_append ((layout_of w).binder d) (written (layout_of w) (suc d) b))

  pub whole-app : (l r : Term)
      → part_text w d Whole (app l r) ≡ part_text w d Left l ++ (gap_of w ++ part_text w d Right r)
  unfolding part_text
  whole-app l r =
      let left : List ℕ = as_left (layout_of w) l (written (layout_of w) d l) in
      let right : List ℕ = as_right (layout_of w) r (written (layout_of w) d r) in
      bytes_append left (gap_of w ++ right)
      ∙ ap (λ b. bytes left ++ b)
      (bytes_append (gap_of w) right ∙ ap (λ g. g ++ bytes right) (bytes_shown (shown_gap (notation_of w.notation))))

-- THE TEXT THAT IS LEFT: a part, and so many parentheses to close
abbrev pub pending : Style → (d : ℕ) → Part → Term → (closes : ℕ) → List ℕ
pending w d part t closes = part_text w d part t ++ replicate closes 41

one_more-closed : (g : Bool) (closes : ℕ)
    → closing g ++ replicate closes 41 ≡ replicate (closes + length (opening g)) 41
one_more-closed true closes = rw add-one
one_more-closed false closes = rw add-zero

-- what stands between the parentheses, if there are any, comes after the first of them
between : {xs : List ℕ} (ys : List ℕ) (g : Bool) (closes : ℕ) → xs ≡ opening g ++ (ys ++ closing g)
    → xs ++ replicate closes 41 ≡ opening g ++ (ys ++ replicate (closes + length (opening g)) 41)
between ys g closes e =
    ap (λ xs. xs ++ replicate closes 41) e
    ∙ append_assoc (opening g) (ys ++ closing g) (replicate closes 41)
    ∙ ap (λ zs. opening g ++ zs)
    (append_assoc ys (closing g) (replicate closes 41) ∙ ap (λ zs. ys ++ zs) (one_more-closed g closes))

module _ (w : Style) (d : ℕ) (part : Part) (closes : ℕ) where
  pub pending_var : {t : Term} (i : ℕ) → t ≡ var i
      → pending w d part t closes ≡ variable_of w d i ++ replicate closes 41
  pending_var i e =
      ap (λ u. pending w d part u closes) e ∙ ap (λ xs. xs ++ replicate closes 41) (text_of_var w d part i)

  pub pending_lam : (b : Term)
      → let g = groups_lam part in
      pending w d part (lam b) closes
      ≡ opening g ++ (binder_of w d ++ pending w (d + 1) Whole b (closes + length (opening g)))
  pending_lam b =
      let g : Bool = groups_lam part in
      between (part_text w d Whole (lam b)) g closes (lam-part w d part b)
      ∙ ap (λ xs. opening g ++ xs)
      (ap (λ xs. xs ++ replicate (closes + length (opening g)) 41) (whole-lam w d b)
      ∙ append_assoc (binder_of w d) (part_text w (d + 1) Whole b) (replicate (closes + length (opening g)) 41))

  pub pending_app : (l r : Term)
      → let g = groups_app part in
      pending w d part (app l r) closes
      ≡ opening g ++ (part_text w d Left l ++ (gap_of w ++ pending w d Right r (closes + length (opening g))))
  pending_app l r =
      let g : Bool = groups_app part in
      let closed : List ℕ = replicate (closes + length (opening g)) 41 in
      between (part_text w d Whole (app l r)) g closes (app-part w d part l r)
      ∙ ap (λ xs. opening g ++ xs)
      (ap (λ xs. xs ++ closed) (whole-app w d l r)
      ∙ append_assoc (part_text w d Left l) (gap_of w ++ part_text w d Right r) closed
      ∙ ap (λ xs. part_text w d Left l ++ xs) (append_assoc (gap_of w) (part_text w d Right r) closed))
