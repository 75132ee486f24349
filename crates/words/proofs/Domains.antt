-- The search for a character outside the domain, as far as it has come.
use Prim.Native.Nat.{ℕ, suc, ◌+◌, ◌-◌, ◌≤◌, ◌<◌}
use mathlib.Core.Path.{◌≡◌, refl, sym, ap, ◌∙◌}
use mathlib.Core.Bool.{Bool, true, false, ◌||◌, true≢false}
use mathlib.Core.List.{List, [], ◌∷◌}
use mathlib.Core.Option.{some}
use native.Mathlib.Omega.{arith}
use lib.Dec.{ltb}
use lib.ListN.{length, take, drop, get_or}
use Rattle.std.proofs.Math.Seq.{take-length}
use Rattle.std.proofs.lemmas.Bool.{ltb-true}
use borrow.Author.Tests.{ne_eqb}
use Rattle.calculus.specs.Bounds.{most_text}
use Rattle.calculus.proofs.Coding.{AllBytes}
use Rattle.calculus.specs.Numbers.{between}
use Rattle.calculus.specs.Characters.{sign, white, in_domain, joined, characters, first_outside}
use Rattle.words.specs.Places.{Clean}
use Rattle.words.proofs.Remaining.{joined_byte, joined-pair, joined_alone}

-- whether a byte is by itself a character of the domain
abbrev plain : ℕ → Bool
plain b = white b || between 33 126 b

plain-in_domain : (b : ℕ) → b < 256 → in_domain b ≡ plain b
plain-in_domain b small = rw (ne_eqb b sign (λ e. omega arith)) (without (white b) (between 33 126 b))
  where
    without : (x y : Bool) → (x || y || false) ≡ (x || y)
    without true y = refl
    without false true = refl
    without false false = refl

-- what a list has after its first
abbrev pub later : List ℕ → List ℕ
later l = take (length l - 1) (drop 1 l)

later-cons : (b : ℕ) (bs : List ℕ) → later (b ∷ bs) ≡ bs
later-cons b bs = let all : suc (length bs) - 1 ≡ length bs = omega arith in rw all (take-length bs)

-- no character before what is left is outside the domain
pub record Passed (s left : List ℕ) : Type 0 where
  pub within : length left ≤ length s
  pub bytes : AllBytes left
  pub same : first_outside 0 (characters s) ≡ first_outside (length s - length left) (characters left)

pub none_passed : (s : List ℕ) → AllBytes s → Passed s s
none_passed s bytes =
    let none : length s - length s ≡ 0 = omega arith in
    record { within = omega arith; bytes = bytes; same = rw none refl }

pub all-passed : {s : List ℕ} (left : List ℕ) → Passed s left → length left ≡ 0 → length s ≤ most_text → AllBytes s
    → Clean s
unfolding first_outside characters
all-passed [] passed end short bytes = record { short = short; only_bytes = bytes; domain = passed.same }
all-passed (b ∷ bs) passed end short bytes = absurd (omega arith)

not_plain : (b : ℕ) → plain b ≡ true → (k : ℕ) → plain k ≡ false → b ≡ k → ⊥
not_plain b p k q e = true≢false (sym p ∙ ap plain e ∙ q)

module _ {s : List ℕ} where
  pub pass_sign : (left : List ℕ) → Passed s left → get_or left 0 0 ≡ 0xCE → get_or (later left) 0 0 ≡ 0xBB
      → Passed s (later (later left))
  unfolding first_outside characters
  pass_sign [] passed first second = absurd (omega arith)
  pass_sign (b ∷ []) passed first second = absurd (omega arith)
  pass_sign (b ∷ c ∷ cs) passed first second =
      let sign_here : c ≡ 0xBB = rw later-cons at second in
      let two : length s - suc (suc (length cs)) + 2 ≡ length s - length cs = omega (arith, passed.within) in
      let here : characters (b ∷ c ∷ cs) ≡ sign ∷ characters cs = rw (first, sign_here) (joined-pair (characters cs)) in
      rw (later-cons, later-cons)
      (record {
        within = omega (arith, passed.within);
        bytes = λ i. passed.bytes (suc (suc i));
        same = passed.same ∙ ap (first_outside _) here ∙ ap (λ k. first_outside k (characters cs)) two;
      })

  pub pass_plain : (left : List ℕ) → Passed s left → plain (get_or left 0 0) ≡ true → Passed s (later left)
  unfolding first_outside characters
  pass_plain [] passed fine = absurd (true≢false (sym fine))
  pass_plain (b ∷ cs) passed fine =
      let one : length s - suc (length cs) + 1 ≡ length s - length cs = omega (arith, passed.within) in
      let here : characters (b ∷ cs) ≡ b ∷ characters cs = joined_byte b (not_plain b fine 0xCE refl) (characters cs) in
      let inside : in_domain b ≡ true = plain-in_domain b (passed.bytes 0) ∙ fine in
      rw later-cons
      (record {
        within = omega (arith, passed.within);
        bytes = λ i. passed.bytes (suc i);
        same =
            passed.same
            ∙ ap (first_outside _) here
            ∙ rw (inside, ne_eqb b sign (not_plain b fine sign refl)) (ap (λ k. first_outside k (characters cs)) one);
      })

  -- WHERE A CHARACTER IS OUTSIDE: a byte by itself, or a CE that no BB follows
  pub outside_plain : (left : List ℕ) → Passed s left → 1 ≤ length left → (get_or left 0 0 ≡ 0xCE → ⊥)
      → plain (get_or left 0 0) ≡ false → first_outside 0 (characters s) ≡ some (length s - length left)
  unfolding first_outside characters
  outside_plain [] passed h n strange = absurd (omega arith)
  outside_plain (b ∷ cs) passed h n strange =
      passed.same
      ∙ ap (first_outside _) (joined_byte b n (characters cs))
      ∙ rw (plain-in_domain b (passed.bytes 0), strange) refl

  pub outside_lone : (left : List ℕ) → Passed s left → get_or left 0 0 ≡ 0xCE
      → (get_or (later left) 0 0 ≡ 0xBB → ⊥) → first_outside 0 (characters s) ≡ some (length s - length left)
  unfolding first_outside characters
  outside_lone [] passed first n = absurd (omega arith)
  outside_lone (b ∷ []) passed first n = passed.same ∙ rw first refl
  outside_lone (b ∷ c ∷ cs) passed first n =
      let other : c ≡ 0xBB → ⊥ = rw later-cons at n in
      let alone : characters (b ∷ c ∷ cs) ≡ 0xCE ∷ joined c (characters cs) =
      rw first (joined_alone c other (characters cs)) in
      passed.same ∙ ap (first_outside _) alone

  pub outside_last : (left : List ℕ) → Passed s left → get_or left 0 0 ≡ 0xCE → ltb (length (later left)) 1 ≡ true
      → first_outside 0 (characters s) ≡ some (length s - length left)
  outside_last left passed first end =
      outside_lone left passed first (λ e. absurd (omega (arith, beyond (later left) (ltb-true _ _ end))))
    where
      beyond : (l : List ℕ) → length l < 1 → get_or l 0 0 ≡ 0
      beyond [] h = refl
      beyond (b ∷ bs) h = absurd (omega arith)
