-- Names letter by letter, of which all but the last are the name of a smaller number; variables and binders by name.
use Prim.Native.Nat.{ℕ, zero, suc, ◌+◌, ◌-◌, ◌*◌, ◌/◌, ◌%◌, ◌^◌, ◌≤◌, ◌<◌, min}
use mathlib.Core.Path.{◌≡◌, refl, ap, ◌∙◌}
use mathlib.Core.Bool.{cond}
use mathlib.Core.List.{List, [], ◌∷◌, ◌++◌}
use native.Mathlib.Omega.{arith}
use native.Mathlib.Nat.{pow-suc}
use lib.Dec.{ltb}
use lib.ListN.{length, length-append}
use borrow.Author.Tests.{lt-ltb, le-ltb, le-leb, lt-leb}
use Rattle.calculus.specs.Bounds.{greatest_number}
use Rattle.calculus.specs.Characters.{bytes, codes}
use Rattle.calculus.specs.Writing.{letters, name_text, variable_text}
use Rattle.calculus.proofs.Shown.{bytes_shown, shown_name}
use Rattle.term.specs.declared.Notation.{Notation}
use Rattle.term.specs.declared.Notation.TheVariants.{DeBruijn, Classic}
use Rattle.printer.specs.Pieces.{binder_of}
use Rattle.printer.specs.declared.pieces.Style.{Style}
use Rattle.printer.proofs.PartTexts.{bytes_append}

-- a number below a power of 26 takes as many letters, and no more
letters-enough : (n k : ℕ) → k < 26 ^ suc n → letters (suc n) k ≡ letters (suc (suc n)) k
unfolding letters
letters-enough zero k h = rw (lt-ltb k 26 h)
letters-enough (suc n) k h =
    let below : k < 26 ^ suc n * 26 = rw (pow-suc 26 (suc n)) at h in
    ap (λ ls. cond (ltb k 26) [] ls ++ ((97 + k % 26) ∷ [])) (letters-enough n (k / 26 - 1) (omega arith))

pub name_of_one : (k : ℕ) → k < 26 → name_text k ≡ (97 + k) ∷ []
unfolding name_text
name_of_one k h = rw (lt-ltb k 26 h) (ap (λ c. (97 + c) ∷ []) (omega arith))

pub name_of_more : (k : ℕ) → 26 ≤ k → k < 2 ^ 64 → name_text k ≡ name_text (k / 26 - 1) ++ ((97 + k % 26) ∷ [])
unfolding name_text
name_of_more k h fits =
    rw (le-ltb k 26 h)
    (ap (λ ls. ls ++ ((97 + k % 26) ∷ [])) (letters-enough 12 (k / 26 - 1) (omega arith)))

pub name_longer : (k : ℕ) → 26 ≤ k → k < 2 ^ 64 → length (name_text k) ≡ suc (length (name_text (k / 26 - 1)))
name_longer k h fits =
    let last : List ℕ = (97 + k % 26) ∷ [] in
    ap length (name_of_more k h fits) ∙ omega (arith, length-append (name_text (k / 26 - 1)) last)

-- THE NAME OF A VARIABLE: index 0, a bound one, a free one
pub variable-zero : (m d : ℕ) → variable_text m d 0 ≡ codes "undefined"
unfolding variable_text
variable-zero m d = refl

pub variable-bound : (m d i : ℕ) → (i ≡ 0 → ⊥) → i ≤ d → variable_text m d i ≡ name_text (d - i)
unfolding variable_text
variable-bound m d zero some bound = absurd (some refl)
variable-bound m d (suc i) some bound = rw (le-leb (suc i) d bound)

pub variable_free : (m d i : ℕ) → d < i → variable_text m d i ≡ name_text (min (m + (i - d)) greatest_number - 1)
unfolding variable_text
variable_free m d zero free = absurd (omega arith)
variable_free m d (suc i) free = rw (lt-leb (suc i) d free)

-- A BINDER: the two bytes of the sign, and in classic text a name and a dot
module _ (w : Style) (d : ℕ) where
  pub binder-de_bruijn : w.notation ≡ DeBruijn → binder_of w d ≡ (0xCE ∷ []) ++ (0xBB ∷ [])
  unfolding binder_of
  binder-de_bruijn e = rw e

  pub binder-classic : w.notation ≡ Classic
      → binder_of w d ≡ (0xCE ∷ []) ++ ((0xBB ∷ []) ++ (name_text d ++ (46 ∷ [])))
  unfolding binder_of bytes
  binder-classic e =
      rw e
      (ap (λ b. 0xCE ∷ 0xBB ∷ b)
      (bytes_append (name_text d) (46 ∷ []) ∙ ap (λ b. b ++ (46 ∷ [])) (bytes_shown (shown_name d))))

  pub binder-classic-length : w.notation ≡ Classic → length (binder_of w d) ≡ length (name_text d) + 3
  binder-classic-length e =
      omega (arith, ap length (binder-classic e), length-append (name_text d) (46 ∷ []))

  pub binder-length : 2 ≤ length (binder_of w d)
  binder-length = either w.notation refl
    where
      either : (n : Notation) → w.notation ≡ n → 2 ≤ length (binder_of w d)
      either DeBruijn e = omega (arith, ap length (binder-de_bruijn e))
      either Classic e = omega (arith, binder-classic-length e)
