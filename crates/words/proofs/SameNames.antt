-- Two names are the same text exactly if they have the same bytes.
use Rattle.std.specs.Prelude.{ℕ, zero, suc, ◌-◌, ◌<◌, ◌≤◌, ◌≡◌, Bool, true, false, List, [], ◌∷◌, take, drop, get_or, length}
use Rattle.std.proofs.Common.{refl, sym, ap, ◌∙◌, ◌&&◌, eq-eqb, arith}
use Rattle.std.proofs.lemmas.List.{length-drop, length-take-le, take_all}
use lib.Dec.{eqb}
use lib.Pointwise.{pointwise}
use Rattle.calculus.specs.Characters.{characters, bytes, same_text}
use Rattle.calculus.proofs.Names.{same_text-refl, same_text→eq}
use Rattle.calculus.proofs.Tests.{is_false}
use Rattle.words.specs.Places.{Clean, Inside, name_of}
use Rattle.words.specs.declared.Name.{Name}
use Rattle.words.proofs.Remaining.{bytes-characters, bytes_after}
use mathlib.Core.Bool.{true≢false}

-- two slices are equal, in std's word and in ours
pub same_text-pointwise : (xs ys : List ℕ) → pointwise eqb xs ys ≡ same_text xs ys
unfolding same_text
same_text-pointwise [] [] = refl
same_text-pointwise [] (y ∷ ys) = refl
same_text-pointwise (x ∷ xs) [] = refl
same_text-pointwise (x ∷ xs) (y ∷ ys) = ap (λ b. eqb x y && b) (same_text-pointwise xs ys)

-- the rest, as a slice to the end has it
abbrev rest_from : ℕ → List ℕ → List ℕ
rest_from n xs = take (length xs - n) (drop n xs)

rest-drop : (n : ℕ) (xs : List ℕ) → rest_from n xs ≡ drop n xs
rest-drop n xs = take_all (length xs - n) (drop n xs) (omega (arith, length-drop n xs))

-- where the first bytes agree, the rest decides
rest_decides : (n : ℕ) (xs ys : List ℕ) → n ≤ length xs → length xs ≡ length ys
    → ((k : ℕ) → k < n → get_or xs k 0 ≡ get_or ys k 0) → pointwise eqb (drop n xs) (drop n ys) ≡ pointwise eqb xs ys
rest_decides zero xs ys h e agree = refl
rest_decides (suc n) [] ys h e agree = absurd (omega arith)
rest_decides (suc n) (x ∷ xs) [] h e agree = absurd (omega (arith, e))
rest_decides (suc n) (x ∷ xs) (y ∷ ys) h e agree =
    let same : eqb x y ≡ true = eq-eqb x y (agree 0 (omega arith)) in
    rw same (rest_decides n xs ys (omega arith) (omega (arith, e)) (λ k low. agree (suc k) (omega arith)))

differ : (xs ys : List ℕ) → (xs ≡ ys → ⊥) → false ≡ same_text xs ys
differ xs ys n = sym (is_false (same_text xs ys) (λ same. n (same_text→eq xs ys same)))

-- the bytes of a name
abbrev bytes_at : List ℕ → Name → List ℕ
bytes_at s x = take (x.to - x.from) (drop x.from s)

bytes-taken : (n : ℕ) (s : List ℕ) → ((at : ℕ) → get_or s at 0 < 256) → (at : ℕ) → get_or (take n s) at 0 < 256
bytes-taken zero s h at = omega arith
bytes-taken (suc n) [] h at = omega arith
bytes-taken (suc n) (b ∷ s) h zero = h 0
bytes-taken (suc n) (b ∷ s) h (suc at) = bytes-taken n s (λ at. h (suc at)) at

module _ {s : List ℕ} (clean : Clean s) where
  bytes-name : (x : Name) → bytes (name_of s x) ≡ bytes_at s x
  bytes-name x =
      bytes-characters (take (x.to - x.from) (drop x.from s))
      (bytes-taken (x.to - x.from) (drop x.from s) (bytes_after clean x.from))

  pub same-names : (x y : Name) → same_text (bytes_at s x) (bytes_at s y) ≡ same_text (name_of s x) (name_of s y)
  same-names x y = read (same_text (bytes_at s x) (bytes_at s y)) refl
    where
      read : (b : Bool) → same_text (bytes_at s x) (bytes_at s y) ≡ b → b ≡ same_text (name_of s x) (name_of s y)
      read true e =
          rw (ap characters (same_text→eq (bytes_at s x) (bytes_at s y) e)) (sym (same_text-refl (name_of s y)))
      read false e =
          sym
          (is_false (same_text (name_of s x) (name_of s y))
          (λ same.
          let alike : bytes_at s x ≡ bytes_at s y =
          sym (bytes-name x) ∙ ap bytes (same_text→eq (name_of s x) (name_of s y) same) ∙ bytes-name y in
          true≢false (sym (same_text-refl (bytes_at s y)) ∙ rw alike at e)))

  pub bytes-length : (x : Name) → Inside s x → length (bytes_at s x) ≡ x.to - x.from
  bytes-length x inside =
      length-take-le (x.to - x.from) (drop x.from s) (omega (arith, length-drop x.from s, inside.within))

  pub longer-names : (x y : Name) → Inside s x → Inside s y → (x.to - x.from ≡ y.to - y.from → ⊥)
      → false ≡ same_text (name_of s x) (name_of s y)
  longer-names x y a b n =
      differ (bytes_at s x) (bytes_at s y) (λ e. n (sym (bytes-length x a) ∙ ap length e ∙ bytes-length y b))
      ∙ same-names x y

  pub other-names : (x y : Name) (k : ℕ) → (get_or (bytes_at s x) k 0 ≡ get_or (bytes_at s y) k 0 → ⊥)
      → false ≡ same_text (name_of s x) (name_of s y)
  other-names x y k n = differ (bytes_at s x) (bytes_at s y) (λ e. n (ap (λ l. get_or l k 0) e)) ∙ same-names x y

  -- what `==` of the slices tells
  pub alike-names : (x y : Name) → {b : Bool} → b ≡ pointwise eqb (bytes_at s x) (bytes_at s y)
      → b ≡ same_text (name_of s x) (name_of s y)
  alike-names x y is = is ∙ same_text-pointwise (bytes_at s x) (bytes_at s y) ∙ same-names x y

  -- what it tells of the rest, where the first bytes agree one by one
  pub agreeing-names : (x y : Name) (n : ℕ) → n ≤ length (bytes_at s x) → length (bytes_at s x) ≡ length (bytes_at s y)
      → ((k : ℕ) → k < n → get_or (bytes_at s x) k 0 ≡ get_or (bytes_at s y) k 0) → {b : Bool}
      → b ≡ pointwise eqb (rest_from n (bytes_at s x)) (rest_from n (bytes_at s y)) → b ≡ same_text (name_of s x) (name_of s y)
  agreeing-names x y n within long agree is =
      let a = rest-drop n (bytes_at s x) in
      let b = rest-drop n (bytes_at s y) in
      alike-names x y (is ∙ rw (a, b) (rest_decides n (bytes_at s x) (bytes_at s y) within long agree))

-- what `same_name` is proved by
pub ruleset naming = (longer-names, other-names)
