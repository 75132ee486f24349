-- Bytes put into a slice one after another: what is put, and what is left to be put at the place that is reached.
use Prim.Native.Nat.{ℕ, suc, ◌+◌, ◌≤◌}
use mathlib.Core.Path.{◌≡◌, refl, sym, ap, ◌∙◌}
use mathlib.Core.List.{List, [], ◌∷◌, ◌++◌}
use native.Mathlib.Omega.{arith}
use native.Mathlib.Nat.{add-zero, zero-add}
use lib.ListN.{length, set, drop, length-append}
use lib.Seq.{sets, sets-eq, length-sets}
use Rattle.calculus.specs.Outcomes.{laid_over}

-- a text is put at a place, and the place after it is told; what lies past the end is not stored
pub record Puts (before : List ℕ) (from : ℕ) (text : List ℕ) (to : ℕ) (after : List ℕ) : Type 0 where
  pub reached : to ≡ from + length text
  pub stored : after ≡ sets before from text

-- once the rest is put at `to` of `out`, the whole is put at `from` of `before`
pub record Leaves (before : List ℕ) (from : ℕ) (whole out : List ℕ) (to : ℕ) (rest : List ℕ) : Type 0 where
  pub reached : to + length rest ≡ from + length whole
  pub stored : sets out to rest ≡ sets before from whole

sets_append : (xs ys l : List ℕ) (i : ℕ) → sets (sets l i xs) (i + length xs) ys ≡ sets l i (xs ++ ys)
sets_append [] ys l i = rw add-zero
sets_append (x ∷ xs) ys l i =
    let e : i + suc (length xs) ≡ suc i + length xs = omega arith in
    rw e (sets_append xs ys (set l i x) (suc i))

module _ {before : List ℕ} {from : ℕ} {whole : List ℕ} where
  -- at first all is left
  pub all_left : Leaves before from whole before from whole
  all_left = record { reached = refl; stored = refl }

  -- a text is put: what comes after it is left
  pub put_on : {out rest : List ℕ} {to next : ℕ} {after : List ℕ} (xs ys : List ℕ)
      → Leaves before from whole out to rest → rest ≡ xs ++ ys → Puts out to xs next after
      → Leaves before from whole after next ys
  put_on {out} {rest} {to} xs ys left e put = record {
    reached = omega (arith, left.reached, put.reached, ap length e ∙ length-append xs ys);
    stored =
        rw (put.stored, put.reached) (sets_append xs ys out to) ∙ ap (sets out to) (sym e) ∙ left.stored;
  }

  -- nothing is left
  pub none_left : {out rest : List ℕ} {to : ℕ} → Leaves before from whole out to rest → rest ≡ []
      → Puts before from whole to out
  none_left {out} {rest} {to} left e = record {
    reached = omega (arith, left.reached, ap length e);
    stored = ap (sets out to) (sym e) ∙ left.stored;
  }

pub leaves-length : {before out : List ℕ} {from to : ℕ} (whole rest : List ℕ) → Leaves before from whole out to rest
    → length out ≡ length before
leaves-length {before} {out} {from} {to} whole rest left =
    sym (length-sets out to rest) ∙ ap length left.stored ∙ length-sets before from whole

-- two texts, one after the other
pub puts_then : {before mid after : List ℕ} {from place to : ℕ} (xs ys : List ℕ) → Puts before from xs place mid
    → Puts mid place ys to after → Puts before from (xs ++ ys) to after
puts_then xs ys first second = record {
  reached = omega (arith, first.reached, second.reached, length-append xs ys);
  stored = second.stored ∙ rw (first.stored, first.reached) (sets_append xs ys _ _);
}

pub puts_none : {before : List ℕ} {from : ℕ} → Puts before from [] from before
puts_none = record { reached = omega arith; stored = refl }

pub puts-length : {before after : List ℕ} {from to : ℕ} (xs : List ℕ) → Puts before from xs to after
    → length after ≡ length before
puts-length {before} {from = from} xs put = ap length put.stored ∙ length-sets before from xs

-- a text that is put at the start of a slice that holds it is laid over the slice
pub laid : (text out : List ℕ) → length text ≤ length out → sets out 0 text ≡ laid_over text out
laid text out h = sets-eq text out 0 (omega arith) ∙ ap (λ k. text ++ drop k out) (zero-add (length text))
