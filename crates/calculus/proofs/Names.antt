-- Names by number, of which no two numbers share one, and names that are the same text.
use Prim.Native.Nat.{ℕ, zero, suc, ◌+◌, ◌*◌, ◌-◌, ◌/◌, ◌^◌, ◌<◌}
use mathlib.Core.Path.{◌≡◌, refl, ap, ap₂, sym, ◌∙◌}
use mathlib.Core.Bool.{true, false, false≢true}
use mathlib.Core.List.{List, [], ◌∷◌, ◌++◌, append_assoc, append-nil}
use native.Mathlib.Omega.{arith}
use native.Mathlib.Decide.{dec_lt}
use lib.Dec.{eqb}
use Rattle.calculus.specs.Characters.{same_text}
use Rattle.calculus.specs.Words.{Name}
use Rattle.calculus.specs.Writing.{letters, name_text}
use borrow.Author.Tests.{le-leb, lt-leb, eq-eqb, eqb-true}
use Rattle.calculus.proofs.Tests.{is_false, both}

-- one more than the number of a name, read on from the value of the letters before
value : ℕ → Name → ℕ
value v [] = v
value v (c ∷ cs) = value (v * 26 + (c - 96)) cs

-- how many numbers have names of at most n letters
room : ℕ → ℕ
room zero = 0
room (suc n) = 26 + 26 * room n

value_letters : (n k : ℕ) → k < room n → (cs : Name) → value 0 (letters n k ++ cs) ≡ value (suc k) cs
unfolding value letters room
value_letters zero k h cs = absurd (omega arith)
value_letters (suc n) k h cs =
    elim (dec_lt k 26) [
      | yes small ↦ rw (le-leb (suc k) 26 small) (ap (λ v. value v cs) (omega arith))
      | no large ↦
          rw (lt-leb (suc k) 26 (omega arith), append_assoc, value_letters n (k / 26 - 1) (omega arith))
          (ap (λ v. value v cs) (omega arith))
    ]

value_name : (k : ℕ) → k < 2 ^ 64 → value 0 (name_text k) ≡ suc k
unfolding value name_text room
value_name k h = rw append-nil at (value_letters 14 k (omega arith) [])

pub name_injective : (j k : ℕ) → j < 2 ^ 64 → k < 2 ^ 64 → name_text j ≡ name_text k → j ≡ k
name_injective j k h i e =
    let one_more : suc j ≡ suc k = sym (value_name j h) ∙ ap (value 0) e ∙ value_name k i in
    omega arith

pub same_text-refl : (x : List ℕ) → same_text x x ≡ true
unfolding same_text
same_text-refl [] = refl
same_text-refl (c ∷ cs) = rw (eq-eqb c c refl) (same_text-refl cs)

pub same_text→eq : (x y : List ℕ) → same_text x y ≡ true → x ≡ y
unfolding same_text
same_text→eq [] [] e = refl
same_text→eq [] (d ∷ ds) e = absurd (false≢true e)
same_text→eq (c ∷ cs) [] e = absurd (false≢true e)
same_text→eq (c ∷ cs) (d ∷ ds) e =
    let (head, tail) = both (eqb c d) (same_text cs ds) e in
    ap₂ ◌∷◌ (eqb-true c d head) (same_text→eq cs ds tail)

pub other_name : (j k : ℕ) → j < 2 ^ 64 → k < 2 ^ 64 → (j ≡ k → ⊥) → same_text (name_text j) (name_text k) ≡ false
other_name j k h i differ =
    is_false (same_text (name_text j) (name_text k))
    (λ e. differ (name_injective j k h i (same_text→eq (name_text j) (name_text k) e)))
