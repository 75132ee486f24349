-- The program's lines: how long one is, and that a term has room after it.
use Prim.Native.Nat.{ℕ, ◌≤◌, ◌<◌}
use mathlib.Core.List.{List, [], ◌∷◌, ◌++◌}
use native.Mathlib.Omega.{arith}
use lib.ListN.{length, length-append}
use Rattle.calculus.specs.Bounds.{greatest_number}
use Rattle.calculus.specs.Numbers.{numeral}
use Rattle.calculus.specs.Reading.{Notation}
use Rattle.calculus.specs.Program.{line}
use Rattle.calculus.proofs.Putting.{Puts, puts-length}
use Rattle.marking.specs.Working.{most_word, most_line, Printable, Prints}
use Rattle.marking.proofs.Decimals.{digits-few}
use Rattle.marking.proofs.Texts.{text-short}

module _ (word : List ℕ) (k : ℕ) (short : length word ≤ most_word) where
  pub line-short : length (line word k) ≤ most_line
  line-short =
      let digits : List ℕ = numeral 10 7 k in
      omega (
        arith,
        digits-few 7 k,
        length-append word (32 ∷ (digits ++ (10 ∷ []))),
        length-append digits (10 ∷ []),
      )

  module _ {s out after : List ℕ} {to : ℕ} (asks : Printable s most_line out) (put : Puts out 0 (line word k) to after)
    where
      pub term_fits : Printable s to after
      term_fits = record {
        term = asks.term;
        passes = asks.passes;
        room = omega (arith, asks.room, put.reached, line-short, puts-length (line word k) put);
      }

      pub feed_fits : (n : Notation) {end : ℕ} {last : List ℕ} → Prints n s after to end last → end < greatest_number
      feed_fits n prints =
          let ends = (prints asks.term asks.passes).reached in
          omega (arith, put.reached, line-short, text-short n s asks.passes)
