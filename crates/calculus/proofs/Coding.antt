-- Terms and their bytes give each other: decoding the bytes of t gives t, and only they decode to t.
use Prim.Native.Nat.{ℕ, zero, suc, ◌+◌, ◌*◌, ◌/◌, ◌%◌, ◌^◌, ◌≤◌, ◌<◌}
use mathlib.Core.Path.{◌≡◌, refl, ap, sym, ◌∙◌}
use mathlib.Core.Bool.{Bool, true, false}
use mathlib.Core.List.{List, [], ◌∷◌, ◌++◌, append_assoc, append-nil}
use native.Mathlib.Omega.{arith}
use native.Mathlib.Nat.{pow-suc}
use borrow.Author.Tests.{le-leb, leb-true}
use lib.Dec.{leb}
use lib.ListN.{length, get_or, take, drop, length-append, take-append-drop}
use lib.Seq.{get_or-append-add, length-take-le}
use Rattle.calculus.specs.Term.{Term, var, lam, app, height, greatest_index}
use Rattle.calculus.specs.Bounds.{greatest_number}
use Rattle.calculus.specs.Numbers.{from_digits}
use Rattle.calculus.specs.Refusal.{given}
use Rattle.calculus.specs.Bytes.{digits, encode, Found, found, missing, variable_if, under, beside, two_parts}
use Rattle.calculus.specs.Bytes.{of_kind, term_in, whole, decode}

-- EIGHT BYTES AND AN INDEX
pub number_digits : (k n : ℕ) → from_digits 256 (digits k n) ≡ n
unfolding from_digits digits
number_digits zero n = omega arith
number_digits (suc k) n = rw (number_digits k (n / 256)) (omega arith)

-- every element is a byte
abbrev pub AllBytes : List ℕ → Type 0
AllBytes s = (i : ℕ) → get_or s i 0 < 256

pub digits_number : (k : ℕ) (bs : List ℕ) → AllBytes bs → length bs ≡ suc k → digits k (from_digits 256 bs) ≡ bs
unfolding digits from_digits
digits_number k [] h e = absurd (omega arith)
digits_number zero (b ∷ []) h e = ap (λ (x : ℕ). x ∷ []) (omega arith)
digits_number zero (b ∷ c ∷ bs) h e = absurd (omega arith)
digits_number (suc k) (b ∷ bs) h e =
    let low : (b + 256 * from_digits 256 bs) % 256 ≡ b = omega (arith, h 0) in
    let high : (b + 256 * from_digits 256 bs) / 256 ≡ from_digits 256 bs = omega (arith, h 0) in
    rw (low, high, digits_number k bs (λ i. h (suc i)) (omega arith))

pub bytes_after : (xs ys : List ℕ) → AllBytes (xs ++ ys) → AllBytes ys
bytes_after xs ys h i = rw get_or-append-add at (h (length xs + i))

pub bytes_take : (k : ℕ) (s : List ℕ) → AllBytes s → AllBytes (take k s)
bytes_take zero s h i = omega arith
bytes_take (suc k) [] h i = omega arith
bytes_take (suc k) (b ∷ bs) h zero = h 0
bytes_take (suc k) (b ∷ bs) h (suc i) = bytes_take k bs (λ j. h (suc j)) i

-- THE BYTES OF A TERM are read as that term, wherever they stand
pub term-first : (t : Term) (deep : ℕ) → height t ≤ deep → (rest : List ℕ)
    → term_in deep (encode t ++ rest) ≡ found t rest
unfolding term_in encode digits height from_digits
term-first (var i) zero h rest = absurd (omega arith)
term-first (lam b) zero h rest = absurd (omega arith)
term-first (app l r) zero h rest = absurd (omega arith)
term-first (var i) (suc deep) h rest =
    rw (le-leb 8 (length (digits 7 i ++ rest)) (omega arith)) (ap (λ j. found (var j) rest) (number_digits 7 i))
term-first (lam b) (suc deep) h rest = rw (term-first b deep (omega arith) rest)
term-first (app l r) (suc deep) h rest =
    rw (
      append_assoc (encode l) (encode r) rest,
      term-first l deep (omega arith) (encode r ++ rest),
      term-first r deep (omega arith) rest,
    )

height-bytes : (t : Term) → height t ≤ length (encode t)
unfolding height encode digits
height-bytes (var i) = omega arith
height-bytes (lam b) = omega (arith, height-bytes b)
height-bytes (app l r) = omega (arith, height-bytes l, height-bytes r, length-append (encode l) (encode r))

pub decode-encode : (t : Term) → decode (encode t) ≡ given t
unfolding decode
decode-encode t = ap (whole (encode t)) (rw append-nil at (term-first t (length (encode t)) (height-bytes t) []))

-- NO TWO TERMS have the same bytes
pub encode_injective : (t u : Term) → encode t ≡ encode u → t ≡ u
encode_injective t u e = cc (decode-encode t, decode-encode u, ap decode e)

-- ONLY THE BYTES OF t decode to t
data Reads (s : List ℕ) : Found → Type 0 where
  reads : {t : Term} {rest : List ℕ} → s ≡ encode t ++ rest → Reads s (found t rest)
  breaks_off : {at : List ℕ} → Reads s (missing at)

reads-variable : (bs : List ℕ) → AllBytes bs → (b : Bool) → leb 8 (length bs) ≡ b → Reads (1 ∷ bs) (variable_if b bs)
unfolding encode
reads-variable bs h false e = breaks_off
reads-variable bs h true e =
    let eight : length (take 8 bs) ≡ 8 = length-take-le 8 bs (leb-true 8 (length bs) e) in
    let index = digits_number 7 (take 8 bs) (bytes_take 8 bs h) eight in
    reads (ap (λ x. 1 ∷ x) (sym (take-append-drop 8 bs) ∙ ap (λ x. x ++ drop 8 bs) (sym index)))

reads-under : {bs : List ℕ} {f : Found} → Reads bs f → Reads (2 ∷ bs) (under f)
unfolding encode
reads-under (reads e) = reads (ap (λ x. 2 ∷ x) e)
reads-under breaks_off = breaks_off

reads-beside : (l : Term) {bs rest : List ℕ} {f : Found} → bs ≡ encode l ++ rest → Reads rest f
    → Reads (3 ∷ bs) (beside l f)
unfolding encode
reads-beside l e (reads {t = r} {rest = end} f) =
    reads (ap (λ x. 3 ∷ x) (e ∙ ap (λ x. encode l ++ x) f ∙ sym (append_assoc (encode l) (encode r) end)))
reads-beside l e breaks_off = breaks_off

reads_two : {bs : List ℕ} {f : Found} (next : List ℕ → Found) → AllBytes bs
    → ((s : List ℕ) → AllBytes s → Reads s (next s)) → Reads bs f
    → Reads (3 ∷ bs) (two_parts f next)
reads_two next h ih (reads {t = l} {rest = rest} e) =
    reads-beside l e (ih rest (bytes_after (encode l) rest (rw e at h)))
reads_two next h ih breaks_off = breaks_off

reads-kind : (next : List ℕ → Found) → ((s : List ℕ) → AllBytes s → Reads s (next s)) → (k : ℕ) (bs : List ℕ)
    → AllBytes bs → Reads (k ∷ bs) (of_kind next k bs)
unfolding of_kind
reads-kind next ih zero bs h = breaks_off
reads-kind next ih (suc zero) bs h = reads-variable bs h (leb 8 (length bs)) refl
reads-kind next ih (suc (suc zero)) bs h = reads-under (ih bs h)
reads-kind next ih (suc (suc (suc zero))) bs h = reads_two next h ih (ih bs h)
reads-kind next ih (suc (suc (suc (suc k)))) bs h = breaks_off

reads-term : (deep : ℕ) (s : List ℕ) → AllBytes s → Reads s (term_in deep s)
unfolding term_in
reads-term zero s h = breaks_off
reads-term (suc deep) [] h = breaks_off
reads-term (suc deep) (k ∷ bs) h = reads-kind (term_in deep) (reads-term deep) k bs (λ i. h (suc i))

whole-reads : (s : List ℕ) {t : Term} {f : Found} → Reads s f → whole s f ≡ given t → s ≡ encode t
whole-reads s {t} (reads {t = u} {rest = []} e) w = let same : u ≡ t = cc in rw (← same) (e ∙ append-nil (encode u))
whole-reads s (reads {rest = b ∷ rest} e) w = let never : ◌≡◌ {A = ℕ} 0 1 = cc in absurd (omega arith)
whole-reads s breaks_off w = let never : ◌≡◌ {A = ℕ} 0 1 = cc in absurd (omega arith)

pub encode-decode : (s : List ℕ) {t : Term} → AllBytes s → decode s ≡ given t → s ≡ encode t
unfolding decode
encode-decode s h e = whole-reads s (reads-term (length s) s h) e

-- NO INDEX IN CODED INPUT is above 2^64 - 1
digits-small : (k n : ℕ) → AllBytes (digits k n) → n < 256 ^ suc k
unfolding digits
digits-small zero n h = h 0
digits-small (suc k) n h = omega (arith, digits-small k (n / 256) (λ i. h (suc i)), pow-suc 256 (suc k))

bytes_before : (xs ys : List ℕ) → AllBytes (xs ++ ys) → AllBytes xs
bytes_before [] ys h i = omega arith
bytes_before (x ∷ xs) ys h zero = h 0
bytes_before (x ∷ xs) ys h (suc i) = bytes_before xs ys (λ j. h (suc j)) i

indices_small : (t : Term) → AllBytes (encode t) → greatest_index t ≤ greatest_number
unfolding encode greatest_index
indices_small (var i) h = let small : i < 256 ^ 8 = digits-small 7 i (λ j. h (suc j)) in omega arith
indices_small (lam b) h = indices_small b (λ j. h (suc j))
indices_small (app l r) h =
    let parts : AllBytes (encode l ++ encode r) = λ j. h (suc j) in
    let in_l = indices_small l (bytes_before (encode l) (encode r) parts) in
    let in_r = indices_small r (bytes_after (encode l) (encode r) parts) in
    omega arith

pub decoded_small : (s : List ℕ) {t : Term} → AllBytes s → decode s ≡ given t → greatest_index t ≤ greatest_number
decoded_small s {t} h e = indices_small t (rw (encode-decode s h e) at h)
