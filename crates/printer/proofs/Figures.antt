-- The hex digits of an index: as many as its highest set bit needs, which the leading zeros tell.
use Prim.Native.Nat.{ℕ, zero, suc, ◌+◌, ◌-◌, ◌*◌, ◌/◌, ◌%◌, ◌^◌, ◌≤◌, ◌<◌}
use mathlib.Core.Path.{◌≡◌, refl, sym, ap, ap₂, ◌∙◌}
use mathlib.Core.List.{[], ◌∷◌, ◌++◌}
use native.Mathlib.Omega.{arith}
use native.Mathlib.Decide.{dec_lt}
use native.Mathlib.Nat.{pow-suc, pow-succ', mul-suc, div-one, div-div-eq-div-mul, lt_of_lt_of_le, le_trans, one-le-pow}
use lib.Count.{count_leading_zeros, leading_top}
use lib.ListN.{length, length-append}
use lib.Pow.{pow-add, pow_mono}
use borrow.Author.Tests.{lt-ltb, le-ltb, lt-leb, le-leb}
use Rattle.calculus.specs.Numbers.{figure, numeral}
use Rattle.calculus.specs.Writing.{index_text}
use Rattle.printer.specs.Pieces.{figures}

-- a digit's character without a test
pub figure_sum : (d : ℕ) → d < 16 → 48 + d + (d + 6) / 16 * 7 ≡ figure d
figure_sum d h =
    elim (dec_lt d 10) [
      | yes low ↦ rw (lt-ltb d 10 low) (omega arith)
      | no high ↦ rw (le-ltb d 10 (omega arith)) (omega arith)
    ]

-- the last digit of one more
figures-last : (k n : ℕ) → figures (suc k) n ≡ figures k (n / 16) ++ (figure (n % 16) ∷ [])
unfolding figures
figures-last zero n = rw (div-one n)
figures-last (suc k) n =
    ap₂ ◌∷◌ (ap (λ q. figure (q % 16)) (ap (λ p. n / p) (pow-succ' 16 k) ∙ sym (div-div-eq-div-mul n 16 (16 ^ k))))
    (figures-last k n)

-- a number between two powers has as many digits as the higher says
numeral-figures : (k most n : ℕ) → k < most → 16 ^ k ≤ n → n < 16 ^ suc k → numeral 16 most n ≡ figures (suc k) n
unfolding numeral figures
numeral-figures k zero n few low high = absurd (omega arith)
numeral-figures zero (suc most) n few low high = rw (lt-ltb n 16 high) (sym (figures-last 0 n))
numeral-figures (suc k) (suc most) n few low high =
    let low' : 16 ^ k * 16 ≤ n = rw (pow-suc 16 k) at low in
    let high' : n < 16 ^ suc k * 16 = rw (pow-suc 16 (suc k)) at high in
    let positive : 1 ≤ 16 ^ k = one-le-pow k 16 (omega arith) in
    rw (le-ltb n 16 (omega arith), numeral-figures k most (n / 16) (omega arith) (omega arith) (omega arith))
    (sym (figures-last (suc k) n))

pow16 : (k : ℕ) → 16 ^ k ≡ 2 ^ (4 * k)
pow16 zero = refl
pow16 (suc k) = simp (pow-suc, mul-suc, pow-add) (ap (λ (n : ℕ). n * 16) (pow16 k))

-- an index whose highest set bit is j has j / 4 + 1 digits
pub figures_by_zeros : (n : ℕ) → 0 < n → n < 2 ^ 64
    → ((67 - count_leading_zeros 64 n) / 4 ≤ 16) × (figures ((67 - count_leading_zeros 64 n) / 4) n ≡ numeral 16 16 n)
figures_by_zeros n positive fits =
    let (j, zeros, low, high) = leading_top 64 n positive fits in
    let count : (67 - count_leading_zeros 64 n) / 4 ≡ suc (j / 4) = omega arith in
    let low' : 16 ^ (j / 4) ≤ n = rw pow16 (le_trans (pow_mono (omega arith)) low) in
    let high' : n < 16 ^ suc (j / 4) = rw pow16 (lt_of_lt_of_le high (pow_mono (omega arith))) in
    (omega arith, rw count (sym (numeral-figures (j / 4) 16 n (omega arith) low' high')))

pub length-figures : (k n : ℕ) → length (figures k n) ≡ k
unfolding figures
length-figures zero n = refl
length-figures (suc k) n = ap suc (length-figures k n)

-- the highest digit, as the code shifts it down
pub figures-first : (k n : ℕ) {left : ℕ} → left ≡ suc k
    → figures left n ≡ (figure (n / 2 ^ (4 * k) % 16) ∷ []) ++ figures k n
unfolding figures
figures-first k n e = rw (e, ← pow16 k)

-- THE TEXT OF AN INDEX: 0 and what is above 15 in brackets, else one digit
pub index-zero : index_text 0 ≡ 91 ∷ 48 ∷ 93 ∷ []
unfolding index_text
index-zero = refl

pub index_one_digit : (i : ℕ) → (i ≡ 0 → ⊥) → i < 16 → index_text i ≡ figure i ∷ []
unfolding index_text
index_one_digit i some small = rw (le-leb 1 i (omega arith), le-leb i 15 (omega arith))

pub index_longer : (i : ℕ) → 16 ≤ i → 0 < length (index_text i)
unfolding index_text
index_longer i large = rw (le-leb 1 i (omega arith), lt-leb i 15 large) (omega arith)

module _ (i count : ℕ) (large : 16 ≤ i) (all : figures count i ≡ numeral 16 16 i) where
  pub index_in_brackets : index_text i ≡ (91 ∷ []) ++ (figures count i ++ (93 ∷ []))
  unfolding index_text
  index_in_brackets = rw (all, le-leb 1 i (omega arith), lt-leb i 15 large)

  pub brackets_length : length (index_text i) ≡ count + 2
  brackets_length =
      omega (arith, ap length index_in_brackets, length-append (figures count i) (93 ∷ []), length-figures count i)
