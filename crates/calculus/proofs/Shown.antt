-- What is written lies in the text domain and takes at most 20 bytes a node, so the text bound holds it.
use Prim.Native.Nat.{ℕ, zero, suc, ◌+◌, ◌*◌, ◌-◌, ◌/◌, ◌%◌, ◌≤◌, ◌<◌, min}
use mathlib.Core.Path.{◌≡◌, refl}
use mathlib.Core.Bool.{Bool, true, false, cond, ◌&&◌, false≢true}
use mathlib.Core.List.{List, [], ◌∷◌, ◌++◌}
use mathlib.Core.Option.{none}
use native.Mathlib.Omega.{arith}
use lib.Dec.{leb, ltb}
use lib.ListN.{length}
use Rattle.calculus.specs.Term.{Term, var, lam, app, nodes}
use Rattle.calculus.specs.Bounds.{most_nodes, most_text, greatest_number}
use Rattle.calculus.specs.Numbers.{between, figure, numeral}
use Rattle.calculus.specs.Queries.{max_depth}
use Rattle.calculus.specs.Characters.{sign, in_domain, joined, characters, bytes, first_outside, codes}
use Rattle.calculus.specs.Reading.{Notation, de_bruijn, classic}
use Rattle.calculus.specs.Writing.{grouped, as_left, as_right, written}
use Rattle.calculus.specs.Writing.{index_text, letters, name_text, variable_text}
use Rattle.calculus.specs.Writing.{binder_text, text_of_variable, gap_text}
use Rattle.calculus.specs.Writing.{in_characters, characters_written, write_text}
use borrow.Author.Tests.{ne_eqb}
use Rattle.calculus.proofs.Measures.{nodes_positive}
use Rattle.calculus.proofs.Tests.{both, table, by_table}
use Rattle.calculus.proofs.Tests.{Interval, inside, outside, interval, in_interval}

-- characters 32 to 126 and, where they are allowed, signs, in at most so many bytes
pub data Shown (signs : Bool) : ℕ → List ℕ → Type 0 where
  nothing : {k : ℕ} → Shown signs k []
  plain : {k c : ℕ} {cs : List ℕ} → 32 ≤ c → c ≤ 126 → Shown signs k cs → Shown signs (suc k) (c ∷ cs)
  a_sign : {k : ℕ} {cs : List ℕ} → signs ≡ true → Shown signs k cs → Shown signs (suc (suc k)) (sign ∷ cs)

widen : {signs : Bool} {j : ℕ} {cs : List ℕ} → Shown signs j cs → (k : ℕ) → j ≤ k → Shown signs k cs
widen nothing k h = nothing
widen (plain p q s) zero h = absurd (omega arith)
widen (plain p q s) (suc k) h = plain p q (widen s k (omega arith))
widen (a_sign e s) zero h = absurd (omega arith)
widen (a_sign e s) (suc zero) h = absurd (omega arith)
widen (a_sign e s) (suc (suc k)) h = a_sign e (widen s k (omega arith))

append : {signs : Bool} {j k : ℕ} {a b : List ℕ} → Shown signs j a → Shown signs k b → (n : ℕ) → j + k ≤ n
    → Shown signs n (a ++ b)
append nothing t n h = widen t n (omega arith)
append (plain p q s) t zero h = absurd (omega arith)
append (plain p q s) t (suc n) h = plain p q (append s t n (omega arith))
append (a_sign e s) t zero h = absurd (omega arith)
append (a_sign e s) t (suc zero) h = absurd (omega arith)
append (a_sign e s) t (suc (suc n)) h = a_sign e (append s t n (omega arith))

-- WHAT IS SHOWN is read back as characters, none of them outside the domain
joined-plain : (c : ℕ) → c ≤ 126 → (cs : List ℕ) → joined c cs ≡ c ∷ cs
joined-plain c h [] = refl
joined-plain c h (d ∷ ds) = rw (ne_eqb c 0xCE (λ e. omega arith))

joined-sign : (cs : List ℕ) → joined 0xCE (joined 0xBB cs) ≡ sign ∷ cs
joined-sign [] = refl
joined-sign (d ∷ ds) = refl

pub characters_shown : {signs : Bool} {k : ℕ} {cs : List ℕ} → Shown signs k cs → characters (bytes cs) ≡ cs
unfolding characters bytes
characters_shown nothing = refl
characters_shown (plain {c = c} {cs = cs} p q s) =
    rw (ne_eqb c sign (λ e. omega arith), characters_shown s) (joined-plain c q cs)
characters_shown (a_sign {cs = cs} e s) = rw (characters_shown s) (joined-sign cs)

plain-in_domain : (c : ℕ) → 32 ≤ c → c ≤ 126 → in_domain c ≡ true
unfolding table
plain-in_domain c p q =
    let e : 32 + (c - 32) ≡ c = omega arith in
    rw e at (by_table (λ k. in_domain (32 + k)) (λ k. true) 95 refl (c - 32) (omega arith))

pub domain_shown : {signs : Bool} {k : ℕ} {cs : List ℕ} → Shown signs k cs → (at : ℕ) → first_outside at cs ≡ none
unfolding first_outside
domain_shown nothing at = refl
domain_shown (plain {c = c} p q s) at = rw (plain-in_domain c p q) (domain_shown s _)
domain_shown (a_sign e s) at = domain_shown s _

pub length_shown : {signs : Bool} {k : ℕ} {cs : List ℕ} → Shown signs k cs → length (bytes cs) ≤ k
unfolding bytes
length_shown nothing = omega arith
length_shown (plain {c = c} p q s) = rw (ne_eqb c sign (λ e. omega arith)) (omega (arith, length_shown s))
length_shown (a_sign e s) = omega (arith, length_shown s)

-- PIECES OF TEXT: one character, and characters that are given
one : {signs : Bool} {c : ℕ} → 32 ≤ c → c ≤ 126 → Shown signs 1 (c ∷ [])
one p q = plain p q nothing

abbrev all_plain : List ℕ → Bool
all_plain [] = true
all_plain (c ∷ cs) = between 32 126 c && all_plain cs

literal : {signs : Bool} (cs : List ℕ) → all_plain cs ≡ true → Shown signs (length cs) cs
literal [] e = nothing
literal (c ∷ cs) e =
    let (head, tail) = both (between 32 126 c) (all_plain cs) e in
    let (p, q) = in_interval 32 126 c head in
    plain p q (literal cs tail)

either : {signs : Bool} (b : Bool) {k : ℕ} {xs ys : List ℕ} → Shown signs k xs → Shown signs k ys
    → Shown signs k (cond b xs ys)
either true s t = s
either false s t = t

shown_figure : {signs : Bool} (d : ℕ) → d < 16 → Shown signs 1 (figure d ∷ [])
shown_figure d h = by_size (ltb d 10)
  where
    by_size : {signs : Bool} (b : Bool) → Shown signs 1 (cond b (48 + d) (55 + d) ∷ [])
    by_size true = one (omega arith) (omega arith)
    by_size false = one (omega arith) (omega arith)

shown_numeral : {signs : Bool} (n i : ℕ) → Shown signs n (numeral 16 n i)
unfolding numeral
shown_numeral zero i = nothing
shown_numeral (suc n) i =
    append (either (ltb i 16) nothing (shown_numeral n (i / 16))) (shown_figure (i % 16) (omega arith))
    (suc n) (omega arith)

shown_index : {signs : Bool} (i : ℕ) → Shown signs 18 (index_text i)
unfolding index_text
shown_index i = by_size (interval 1 15 i)
  where
    bracketed : {signs : Bool} → Shown signs 17 (numeral 16 16 i ++ (93 ∷ []))
    bracketed = append (shown_numeral 16 i) (literal (93 ∷ []) refl) 17 (omega arith)

    by_size : {signs : Bool} {b : Bool} → Interval 1 15 i b
        → Shown signs 18 (cond b (figure i ∷ []) (91 ∷ (numeral 16 16 i ++ (93 ∷ []))))
    by_size (inside p q) = widen (shown_figure i (omega arith)) 18 (omega arith)
    by_size (outside o) = append (literal (91 ∷ []) refl) bracketed 18 (omega arith)

shown_letters : {signs : Bool} (n k : ℕ) → Shown signs n (letters n k)
unfolding letters
shown_letters zero k = nothing
shown_letters (suc n) k =
    append (either (ltb k 26) nothing (shown_letters n (k / 26 - 1))) (one (omega arith) (omega arith))
    (suc n) (omega arith)

pub shown_name : {signs : Bool} (k : ℕ) → Shown signs 14 (name_text k)
unfolding name_text
shown_name k = shown_letters 14 k

shown_variable : {signs : Bool} (m d i : ℕ) → Shown signs 18 (variable_text m d i)
unfolding variable_text codes
shown_variable m d zero = widen (literal (codes "undefined") refl) 18 (omega arith)
shown_variable {signs} m d (suc i) =
    let bound : Shown signs 14 (name_text (d - suc i)) = shown_name (d - suc i) in
    widen (either (leb (suc i) d) bound (shown_name (min (m + (suc i - d)) greatest_number - 1))) 18 (omega arith)

-- without signs the bytes are the characters
pub bytes_shown : {k : ℕ} {cs : List ℕ} → Shown false k cs → bytes cs ≡ cs
unfolding bytes
bytes_shown nothing = refl
bytes_shown (plain {c = c} p q s) = rw (ne_eqb c sign (λ e. omega arith), bytes_shown s)
bytes_shown (a_sign e s) = absurd (false≢true e)

-- IN EITHER NOTATION: only a binder has a sign
shown_binder : (n : Notation) (d : ℕ) → Shown true 17 (binder_text n d)
unfolding binder_text
shown_binder de_bruijn d = a_sign refl nothing
shown_binder classic d = a_sign refl (append (shown_name d) (literal (46 ∷ []) refl) 15 (omega arith))

pub shown_variable_of : {signs : Bool} (n : Notation) (m d i : ℕ) → Shown signs 18 (text_of_variable n m d i)
unfolding text_of_variable
shown_variable_of de_bruijn m d i = shown_index i
shown_variable_of classic m d i = shown_variable m d i

pub shown_gap : {signs : Bool} (n : Notation) → Shown signs 1 (gap_text n)
shown_gap de_bruijn = nothing
shown_gap classic = literal (32 ∷ []) refl

module _ (n : Notation) (m : ℕ) where
  shown_grouped : {k : ℕ} {xs : List ℕ} → Shown true k xs → Shown true (2 + k) (grouped (in_characters n m) xs)
  shown_grouped {k} s =
      append (literal (40 ∷ []) refl) (append s (literal (41 ∷ []) refl) (suc k) (omega arith)) (2 + k) (omega arith)

  shown_left : (t : Term) {k : ℕ} {xs : List ℕ} → Shown true k xs
      → Shown true (2 + k) (as_left (in_characters n m) t xs)
  shown_left (var i) {k} s = widen s (2 + k) (omega arith)
  shown_left (lam b) s = shown_grouped s
  shown_left (app l r) {k} s = widen s (2 + k) (omega arith)

  shown_right : (t : Term) {k : ℕ} {xs : List ℕ} → Shown true k xs
      → Shown true (2 + k) (as_right (in_characters n m) t xs)
  shown_right (var i) {k} s = widen s (2 + k) (omega arith)
  shown_right (lam b) s = shown_grouped s
  shown_right (app l r) s = shown_grouped s

  -- of the 20 bytes of a term's last node, 2 are left for parentheses around the term
  shown_written : (d : ℕ) (t : Term) → Shown true (20 * nodes t - 2) (written (in_characters n m) d t)
  unfolding written nodes
  shown_written d (var i) = shown_variable_of n m d i
  shown_written d (lam b) =
      append (shown_binder n d) (shown_written (suc d) b) (20 * nodes (lam b) - 2) (omega (arith, nodes_positive b))
  shown_written d (app l r) =
      let r_positive : 0 < nodes r = nodes_positive r in
      append (shown_left l (shown_written d l))
      (append (shown_gap n) (shown_right r (shown_written d r)) (1 + 20 * nodes r) (omega arith))
      (20 * nodes (app l r) - 2) (omega (arith, nodes_positive l))

-- a term's characters are shown
pub shown : (n : Notation) (t : Term) → Shown true (20 * nodes t) (characters_written n t)
unfolding characters_written
shown n t = widen (shown_written n (max_depth t) 0 t) (20 * nodes t) (omega arith)

pub text-length : (n : Notation) (t : Term) → length (write_text n t) ≤ 20 * nodes t
unfolding write_text
text-length n t = length_shown (shown n t)

-- THE TEXT OF A TERM THAT ANY CAP ALLOWS IS WITHIN THE TEXT BOUND
pub text-fits : (n : Notation) (t : Term) → nodes t ≤ most_nodes → length (write_text n t) ≤ most_text
text-fits n t few = omega (arith, text-length n t)
