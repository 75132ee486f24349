-- Each piece of a written text is the next word of what remains.
use Prim.Native.Nat.pow
use Prim.Native.Nat.{ℕ, zero, suc, ◌+◌, ◌*◌, ◌-◌, ◌/◌, ◌%◌, ◌^◌, ◌≤◌, ◌<◌}
use mathlib.Core.Path.{◌≡◌, refl, ap, ◌∙◌}
use mathlib.Core.Bool.{Bool, true, false, cond}
use mathlib.Core.List.{List, [], ◌∷◌, ◌++◌, append_assoc}
use mathlib.Core.Option.{Option, none, some}
use native.Mathlib.Omega.{arith}
use native.Mathlib.Decide.{dec_lt}
use lib.Dec.{ltb}
use lib.ListN.{length, length-append}
use Rattle.calculus.specs.Bounds.{greatest_number}
use Rattle.calculus.specs.Numbers.{figure, numeral}
use Rattle.calculus.specs.Characters.{sign, white}
use Rattle.calculus.specs.Words.{word, binder, opening, closing, number, name, start, rest}
use Rattle.calculus.specs.DeBruijn as db
use Rattle.calculus.specs.DeBruijn.{bracketed, next_de_bruijn}
use Rattle.calculus.specs.Classic as cl
use Rattle.calculus.specs.Classic.{in_name, in_binder, is_figure, next_classic}
use Rattle.calculus.specs.Reading.{Notation, de_bruijn, classic, next}
use Rattle.calculus.specs.Writing.{index_text, letters, name_text, variable_text, binder_text, text_of_variable}
use borrow.Author.Tests.{le-leb, lt-leb}
use Rattle.calculus.proofs.Tests.{Interval, inside, outside, interval, table, by_table}
use Rattle.calculus.proofs.Moves.{start-stops, start-goes, rest-stops, rest_goes}
use Rattle.finality.proofs.Walked.{binder-name, variable-word, Fits}

-- DE BRUIJN
figure-glyph : (d : ℕ) → d < 16 → db.glyph (figure d) ≡ db.digit d
unfolding table db.glyph
figure-glyph = by_table (λ d. db.glyph (figure d)) db.digit 16 refl

figure-not-white : (d : ℕ) → d < 16 → white (figure d) ≡ false
unfolding table
figure-not-white = by_table (λ d. white (figure d)) (λ d. false) 16 refl

-- one more digit of an index, while it fits
digit-read : (at : List ℕ) (i : Option ℕ) (d : ℕ) → d < 16 → db.lengthened i d ≤ greatest_number → (cs : List ℕ)
    → bracketed at i (figure d ∷ cs) ≡ bracketed at (some (db.lengthened i d)) cs
unfolding bracketed
digit-read at i d h f cs = rw (figure-glyph d h, le-leb (db.lengthened i d) greatest_number f)

-- an index of one digit, and of more
digit_only : (at : List ℕ) (n i : ℕ) → i < 16 → (cs : List ℕ)
    → bracketed at none (numeral 16 (suc n) i ++ cs) ≡ bracketed at (some i) cs
unfolding numeral
digit_only at n i small cs =
    let same : i % 16 ≡ i = omega arith in
    rw (le-leb (suc i) 16 small, same) (digit-read at none i small (omega arith) cs)

numeral-read : (at : List ℕ) (n i : ℕ) → i < 16 ^ suc n → i ≤ greatest_number → (cs : List ℕ)
    → bracketed at none (numeral 16 (suc n) i ++ cs) ≡ bracketed at (some i) cs
unfolding numeral
numeral-read at zero i h f cs = digit_only at zero i h cs
numeral-read at (suc n) i h f cs =
    elim (dec_lt i 16) [
      | yes small ↦ digit_only at (suc n) i small cs
      | no large ↦
          let whole : i / 16 * 16 + i % 16 ≡ i = omega arith in
          rw (lt-leb (suc i) 16 (omega arith), append_assoc (numeral 16 (suc n) (i / 16)))
          (numeral-read at n (i / 16) (omega (arith, pow.suc 16 (suc n))) (omega arith) (figure (i % 16) ∷ cs)
          ∙ digit-read at (some (i / 16)) (i % 16) (omega arith) (omega arith) cs
          ∙ ap (λ k. bracketed at (some k) cs) whole)
    ]

next-index : (i : ℕ) → i ≤ greatest_number → (after : List ℕ)
    → next_de_bruijn (index_text i ++ after) ≡ word (number i) after
unfolding index_text next_de_bruijn
next-index i f after = by_size (interval 1 15 i)
  where
    by_size : {b : Bool} → Interval 1 15 i b
        → next_de_bruijn (cond b (figure i ∷ []) (91 ∷ (numeral 16 16 i ++ (93 ∷ []))) ++ after) ≡ word (number i) after
    by_size (inside p q) =
        rw (rest-stops white (figure i) after (figure-not-white i (omega arith)), figure-glyph i (omega arith))
    by_size (outside o) = rw append_assoc (numeral-read _ 15 i (omega arith) f (93 ∷ after))

-- CLASSIC: names in lower-case letters
data Lower : List ℕ → Type 0 where
  nothing : Lower []
  letter : {cs : List ℕ} (k : ℕ) → k < 26 → Lower cs → Lower ((97 + k) ∷ cs)

lower_append : {a b : List ℕ} → Lower a → Lower b → Lower (a ++ b)
lower_append nothing l = l
lower_append (letter k h s) l = letter k h (lower_append s l)

lower-either : (b : Bool) {xs ys : List ℕ} → Lower xs → Lower ys → Lower (cond b xs ys)
lower-either true s t = s
lower-either false s t = t

lower-letters : (n k : ℕ) → Lower (letters n k)
unfolding letters
lower-letters zero k = nothing
lower-letters (suc n) k =
    lower_append (lower-either (ltb k 26) nothing (lower-letters n (k / 26 - 1)))
    (letter (k % 26) (omega arith) nothing)

lower-name : (k : ℕ) → Lower (name_text k)
unfolding name_text
lower-name k = lower-letters 14 k

name_nonempty : (k : ℕ) → 0 < length (name_text k)
unfolding name_text letters
name_nonempty k = simp length-append (omega arith)

-- a function that has one value at every lower-case letter
abbrev Letters : {A : Type 0} → (ℕ → A) → A → Type 0
Letters f a = (k : ℕ) → k < 26 → f (97 + k) ≡ a

letter-glyph : Letters cl.glyph cl.letter
unfolding table cl.glyph
letter-glyph = by_table (λ k. cl.glyph (97 + k)) (λ k. cl.letter) 26 refl

letter-not-white : Letters white false
unfolding table
letter-not-white = by_table (λ k. white (97 + k)) (λ k. false) 26 refl

letter-no-figure : Letters is_figure false
unfolding table
letter-no-figure = by_table (λ k. is_figure (97 + k)) (λ k. false) 26 refl

letter-in_name : Letters in_name true
unfolding table
letter-in_name = by_table (λ k. in_name (97 + k)) (λ k. true) 26 refl

letter-in_binder : Letters in_binder true
unfolding table
letter-in_binder = by_table (λ k. in_binder (97 + k)) (λ k. true) 26 refl

-- a test stops at what follows
abbrev Stops : (ℕ → Bool) → List ℕ → Type 0
Stops test [] = Unit {0}
Stops test (c ∷ cs) = test c ≡ false

module _ (test : ℕ → Bool) (passes : Letters test true) where
  start-letters : {x : List ℕ} → Lower x → (after : List ℕ) → Stops test after → start test (x ++ after) ≡ x
  unfolding start
  start-letters nothing [] s = refl
  start-letters nothing (c ∷ cs) s = start-stops test c cs s
  start-letters (letter {cs = cs} k h l) after s =
      start-goes test (97 + k) (cs ++ after) (passes k h) ∙ ap (λ x. (97 + k) ∷ x) (start-letters l after s)

  rest-letters : {x : List ℕ} → Lower x → (after : List ℕ) → Stops test after → rest test (x ++ after) ≡ after
  unfolding rest
  rest-letters nothing [] s = refl
  rest-letters nothing (c ∷ cs) s = rest-stops test c cs s
  rest-letters (letter {cs = cs} k h l) after s =
      rest_goes test (97 + k) (cs ++ after) (passes k h) ∙ rest-letters l after s

next-name : {x : List ℕ} → Lower x → 0 < length x → (after : List ℕ) → Stops in_name after
    → next_classic (x ++ after) ≡ word (name x) after
unfolding next_classic
next-name nothing h after s = absurd (omega arith)
next-name (letter {cs = cs} k b l) h after s =
    rw (
      rest-stops white (97 + k) (cs ++ after) (letter-not-white k b),
      letter-glyph k b,
      start-letters in_name letter-in_name l after s,
      rest-letters in_name letter-in_name l after s,
    )

next-binder-name : {x : List ℕ} → Lower x → 0 < length x → (after : List ℕ)
    → next_classic (sign ∷ (x ++ (46 ∷ after))) ≡ word (binder x) after
unfolding next_classic
next-binder-name nothing h after = absurd (omega arith)
next-binder-name (letter k b l) h after =
    rw (
      letter-no-figure k b,
      start-letters in_binder letter-in_binder (letter k b l) (46 ∷ after) refl,
      rest-letters in_binder letter-in_binder (letter k b l) (46 ∷ after) refl,
    )

-- BOTH NOTATIONS: a variable may stand before these characters
abbrev pub Stopped : Notation → List ℕ → Type 0
Stopped de_bruijn cs = Unit {0}
Stopped classic cs = Stops in_name cs

pub next-binder : (n : Notation) (d : ℕ) (after : List ℕ)
    → next n (binder_text n d ++ after) ≡ word (binder (binder-name n d)) after
unfolding next binder_text
next-binder de_bruijn d after = refl
next-binder classic d after = rw append_assoc (next-binder-name (lower-name d) (name_nonempty d) after)

pub next-variable : (n : Notation) (m d i : ℕ) → Fits n d i → (after : List ℕ) → Stopped n after
    → next n (text_of_variable n m d i ++ after) ≡ word (variable-word n d i) after
unfolding next text_of_variable variable_text
next-variable de_bruijn m d i f after s = next-index i f after
next-variable classic m d zero f after s = absurd (omega arith)
next-variable classic m d (suc i) f after s =
    rw (le-leb (suc i) d f.1) (next-name (lower-name (d - suc i)) (name_nonempty (d - suc i)) after s)

pub next-left : (n : Notation) (after : List ℕ) → next n (40 ∷ after) ≡ word opening after
unfolding next
next-left de_bruijn after = refl
next-left classic after = refl

pub next-right : (n : Notation) (after : List ℕ) → next n (41 ∷ after) ≡ word closing after
unfolding next
next-right de_bruijn after = refl
next-right classic after = refl
