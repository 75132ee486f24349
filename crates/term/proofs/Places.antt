-- Where a term's bytes stand: the head that is read there, where the parts stand, and how far the bytes reach.
use Rattle.std.specs.Prelude.{Option, Some, None}
use Rattle.std.specs.Option.{IsSome}
use Prim.Native.Nat.{ℕ, ◌+◌, ◌≤◌}
use mathlib.Core.Path.{◌≡◌, refl, sym, ap, ◌∙◌}
use mathlib.Core.List.{List, ◌++◌, append_assoc}
use native.Mathlib.Omega.{arith}
use lib.ListN.{length, drop, length-append, length-drop}
use lib.Seq.{drop-drop, drop_at}
use borrow.Author.Tests.{le-leb}
use Rattle.calculus.specs.Term.{Term, var, lam, app}
use Rattle.calculus.specs.Numbers.{from_digits}
use Rattle.calculus.specs.Bytes.{digits, encode}
use Rattle.calculus.proofs.Coding.{number_digits}
use Rattle.calculus.proofs.Sizes.{size, size_positive, length-encode}
use Rattle.term.specs.Heads.{head_of_kind, head_in}
use Rattle.term.specs.Surveys.{Stands, Begins}
use Rattle.term.specs.declared.Head.{Head}
use Rattle.term.specs.declared.Head.TheVariants.{Variable, Abstraction, Application}

abbrev pub head_of_term : Term → Option Head
head_of_term (var i) = Some (Variable i)
head_of_term (lam b) = Some Abstraction
head_of_term (app l r) = Some Application

head_of_encoded : (t : Term) (rest : List ℕ) → head_in (encode t ++ rest) ≡ head_of_term t
unfolding head_in head_of_kind encode digits from_digits
head_of_encoded (var i) rest =
    rw (le-leb 8 (length (digits 7 i ++ rest)) (omega arith)) (ap (λ i. Some (Variable i)) (number_digits 7 i))
head_of_encoded (lam b) rest = refl
head_of_encoded (app l r) rest = refl

pub head_at : {s : List ℕ} {at : ℕ} {t : Term} → Stands s at t → head_in (drop at s) ≡ head_of_term t
head_at {t = t} st = ap head_in st.bytes ∙ head_of_encoded t st.rest

-- THE PARTS
-- an offset within the bytes at `at`
pub drop_more : (s : List ℕ) (at n : ℕ) {l : List ℕ} → drop at s ≡ l → drop (at + n) s ≡ drop n l
drop_more s at n e = sym (drop-drop n at s) ∙ ap (drop n) e

body-stands : {s : List ℕ} {at : ℕ} {b : Term} → Stands s at (lam b) → Stands s (at + 1) b
unfolding encode
body-stands {s} {at} st = record { rest = st.rest; bytes = drop_more s at 1 st.bytes }

left-stands : {s : List ℕ} {at : ℕ} {l r : Term} → Stands s at (app l r) → Stands s (at + 1) l
unfolding encode
left-stands {s} {at} {l} {r} st = record {
  rest = encode r ++ st.rest;
  bytes = drop_more s at 1 st.bytes ∙ append_assoc (encode l) (encode r) st.rest;
}

right-stands : {s : List ℕ} {at : ℕ} {l r : Term} → Stands s at (app l r) → Stands s (at + 1 + size l) r
unfolding left-stands
right-stands {s} {at} {l} {r} st = record {
  rest = st.rest;
  bytes = drop_more s (at + 1) (size l) (left-stands st).bytes
      ∙ drop_at (encode l) (encode r ++ st.rest) (size l) (length-encode l);
}

-- HOW FAR the bytes reach
pub size-within : {s : List ℕ} {at : ℕ} {t : Term} → Stands s at t → at + size t ≤ length s
size-within {s} {at} {t} st =
    omega (arith, length-drop at s, simp length-append at (ap length st.bytes), length-encode t, size_positive t)

pub term-begins : {s : List ℕ} {at : ℕ} {t : Term} → Stands s at t → Begins s at
term-begins {t = t} st = record { term = t; stands = st; inside = omega (arith, size-within st, size_positive t) }

-- WHAT A HEAD SAYS of the term that stands there
pub is-variable : {s : List ℕ} {at i : ℕ} (t : Term) → head_in (drop at s) ≡ Some (Variable i) → Stands s at t → t ≡ var i
is-variable (var j) h st = cc (head_at st)
is-variable (lam b) h st = let never : ◌≡◌ {A = ℕ} 0 1 = cc (head_at st) in absurd (omega arith)
is-variable (app l r) h st = let never : ◌≡◌ {A = ℕ} 0 1 = cc (head_at st) in absurd (omega arith)

pub record IsAbstraction (s : List ℕ) (at : ℕ) (t : Term) : Type 0 where
  pub body : Term
  pub same : t ≡ lam body
  pub body_at : Stands s (at + 1) body

pub is-abstraction : {s : List ℕ} {at : ℕ} (t : Term) → head_in (drop at s) ≡ Some Abstraction → Stands s at t
    → IsAbstraction s at t
is-abstraction (var i) h st = let never : ◌≡◌ {A = ℕ} 0 1 = cc (head_at st) in absurd (omega arith)
is-abstraction (lam b) h st = record { body = b; same = refl; body_at = body-stands st }
is-abstraction (app l r) h st = let never : ◌≡◌ {A = ℕ} 0 1 = cc (head_at st) in absurd (omega arith)

pub record IsApplication (s : List ℕ) (at : ℕ) (t : Term) : Type 0 where
  pub left : Term
  pub right : Term
  pub same : t ≡ app left right
  pub left_at : Stands s (at + 1) left
  pub right_at : Stands s (at + 1 + size left) right

pub is-application : {s : List ℕ} {at : ℕ} (t : Term) → head_in (drop at s) ≡ Some Application → Stands s at t
    → IsApplication s at t
is-application (var i) h st = let never : ◌≡◌ {A = ℕ} 0 1 = cc (head_at st) in absurd (omega arith)
is-application (lam b) h st = let never : ◌≡◌ {A = ℕ} 0 1 = cc (head_at st) in absurd (omega arith)
is-application (app l r) h st =
    record { left = l; right = r; same = refl; left_at = left-stands st; right_at = right-stands st }

pub is_something : {s : List ℕ} {at : ℕ} (t : Term) → head_in (drop at s) ≡ None → Stands s at t → ⊥
is_something (var i) h st = let never : ◌≡◌ {A = ℕ} 0 1 = cc (head_at st) in omega arith
is_something (lam b) h st = let never : ◌≡◌ {A = ℕ} 0 1 = cc (head_at st) in omega arith
is_something (app l r) h st = let never : ◌≡◌ {A = ℕ} 0 1 = cc (head_at st) in omega arith

-- a head stands where a term begins
pub head_stands : {s : List ℕ} {at : ℕ} {t : Term} → Stands s at t → (o : Option Head) → o ≡ head_in (drop at s)
    → IsSome o
head_stands {t = t} st None e = absurd (is_something t (sym e) st)
head_stands st (Some h) e = refl
