-- The digits that stand first: where they end, and the number that they are.
use Prim.Native.Nat.{ℕ, zero, suc, ◌+◌, ◌*◌, ◌-◌, ◌^◌, ◌≤◌, ◌<◌}
use mathlib.Core.Path.{◌≡◌, refl, ap, sym, ◌∙◌}
use mathlib.Core.Bool.{Bool, true, false, not, cond}
use mathlib.Core.List.{List, [], ◌∷◌, ◌++◌, map, reverse_aux}
use mathlib.Core.Option.{some, none}
use native.Mathlib.Omega.{arith}
use native.Mathlib.Nat.{pow-suc, pow-le-pow_right, lt_of_lt_of_le}
use lib.ListN.{length, take, drop, get_or}
use lib.Seq.{take_all}
use borrow.Author.Tests.{le-leb, lt-ltb, le-ltb}
use native.Mathlib.Decide.{dec_lt}
use Rattle.std.specs.Prelude.{unwrap_or, position}
use Rattle.std.specs.List.{prefix_len, position_or_len}
use Rattle.std.proofs.lemmas.List.Sums.{prefix_len-le-length}
use Rattle.std.proofs.lemmas.List.{take_more}
use Rattle.calculus.specs.Numbers.{between, from_digits}
use Rattle.calculus.specs.Words.{start, rest}
use Rattle.calculus.specs.Classic.{is_figure}
use Rattle.calculus.specs.Program.{limit_in}
use Rattle.calculus.proofs.Tests.{is_false, in_interval}
use Rattle.calculus.proofs.Moves.{start-stops, start-goes}

one_more : (n : ℕ) → 1 + n ≡ suc n
one_more n = omega arith

-- WHERE THEY END
module _ (test : ℕ → Bool) where
  starts : (s : List ℕ) → start test s ≡ take (position_or_len (λ b. not (test b)) s) s
  unfolding start
  starts [] = refl
  starts (c ∷ cs) =
      elim (test c)
      as (λ b.
      elim b [ true ↦ c ∷ start test cs | false ↦ [] ]
      ≡ take {A = ℕ} (cond (not (not b)) (1 + prefix_len (λ x. not (not (test x))) cs) 0) (c ∷ cs)) [
        | true ↦ rw (one_more (prefix_len (λ x. not (not (test x))) cs)) (ap (λ xs. c ∷ xs) (starts cs))
        | false ↦ refl
      ]

  ends : (s : List ℕ) → rest test s ≡ drop (position_or_len (λ b. not (test b)) s) s
  unfolding rest
  ends [] = refl
  ends (c ∷ cs) =
      elim (test c)
      as (λ b.
      elim b [ true ↦ rest test cs | false ↦ c ∷ cs ]
      ≡ drop {A = ℕ} (cond (not (not b)) (1 + prefix_len (λ x. not (not (test x))) cs) 0) (c ∷ cs)) [
        | true ↦ rw (one_more (prefix_len (λ x. not (not (test x))) cs)) (ends cs)
        | false ↦ refl
      ]

  -- they are all of what stands before
  pub start_again : (s : List ℕ) → start test (start test s) ≡ start test s
  unfolding start
  start_again [] = refl
  start_again (c ∷ cs) = by_test (test c) refl (start_again cs)
    where
      by_test : (b : Bool) → test c ≡ b → start test (start test cs) ≡ start test cs
          → start test (elim b [ true ↦ c ∷ start test cs | false ↦ [] ]) ≡ elim b [ true ↦ c ∷ start test cs | false ↦ [] ]
      by_test true t e = start-goes test c (start test cs) t ∙ ap (λ xs. c ∷ xs) e
      by_test false t e = refl

  one_passes : (c : ℕ) (cs : List ℕ) → start test (c ∷ cs) ≡ c ∷ cs → (test c ≡ true) × (start test cs ≡ cs)
  one_passes c cs e = by_test (test c) refl
    where
      by_test : (b : Bool) → test c ≡ b → (test c ≡ true) × (start test cs ≡ cs)
      by_test true t =
          let same : ◌≡◌ {A = List ℕ} (c ∷ start test cs) (c ∷ cs) = sym (start-goes test c cs t) ∙ e in (t, cc)
      by_test false t =
          let never : ◌≡◌ {A = List ℕ} [] (c ∷ cs) = sym (start-stops test c cs t) ∙ e in
          absurd (omega (arith, ap length never))

  pub each_passes : (s : List ℕ) → start test s ≡ s → (i : ℕ) → i < length s → test (get_or s i 0) ≡ true
  each_passes [] e i h = absurd (omega arith)
  each_passes (c ∷ cs) e zero h = (one_passes c cs e).0
  each_passes (c ∷ cs) e (suc i) h = each_passes cs (one_passes c cs e).1 i (omega arith)

  -- as the slice's own search answers it
  abbrev place : List ℕ → ℕ
  place s = unwrap_or (position (λ b. not (test b)) s) (length s)

  place_is : (s : List ℕ) → place s ≡ position_or_len (λ b. not (test b)) s
  place_is s =
      let n : ℕ = position_or_len (λ b. not (test b)) s in
      let few : n ≤ length s = prefix_len-le-length (λ x. not (not (test x))) s in
      elim (dec_lt n (length s)) [
        | yes h ↦ rw (lt-ltb n (length s) h) refl
        | no h ↦ rw (le-ltb n (length s) (omega arith)) (omega arith)
      ]

  pub start_taken : (s : List ℕ) → take (place s) s ≡ start test s
  start_taken s = ap (λ n. take n s) (place_is s) ∙ sym (starts s)

  pub rest_left : (s : List ℕ) → drop (place s) s ≡ rest test s
  rest_left s = ap (λ n. drop n s) (place_is s) ∙ sym (ends s)

-- THE NUMBER: digits read on from the value of those before
pub read_on : ℕ → List ℕ → ℕ
read_on v [] = v
read_on v (c ∷ cs) = read_on (v * 10 + (c - 48)) cs

read-digits : (before cs : List ℕ)
    → from_digits 10 (reverse_aux (map (λ c. c - 48) cs) before) ≡ read_on (from_digits 10 before) cs
unfolding from_digits read_on
read-digits before [] = refl
read-digits before (c ∷ cs) = read-digits ((c - 48) ∷ before) cs ∙ ap (λ v. read_on v cs) (omega arith)

read-more : (v : ℕ) (cs : List ℕ) (d : ℕ) → read_on v (cs ++ (d ∷ [])) ≡ read_on v cs * 10 + (d - 48)
unfolding read_on
read-more v [] d = refl
read-more v (c ∷ cs) d = read-more (v * 10 + (c - 48)) cs d

-- so many of the digits have been read
pub record ReadSoFar (digits : List ℕ) (i value : ℕ) : Type 0 where
  pub read : value ≡ read_on 0 (take i digits)
  pub small : value < 10 ^ i

module _ (digits : List ℕ) where
  pub none_read : ReadSoFar digits 0 0
  unfolding read_on
  none_read = record { read = refl; small = omega arith }

  pub a_figure : start is_figure digits ≡ digits → (i : ℕ) → i < length digits
      → (48 ≤ get_or digits i 0) × (get_or digits i 0 ≤ 57)
  a_figure all i h = in_interval 48 57 (get_or digits i 0) (each_passes is_figure digits all i h)

  pub one_read : start is_figure digits ≡ digits → {i value : ℕ} → i < length digits → ReadSoFar digits i value
      → ReadSoFar digits (i + 1) (value * 10 + (get_or digits i 0 - 48))
  one_read all {i} {value} h so_far =
      let (low, high) = a_figure all i h in
      let next : i + 1 ≡ suc i = omega arith in
      record {
        read =
            rw (take_more digits i 0 h)
            (ap (λ v. v * 10 + (get_or digits i 0 - 48)) so_far.read
            ∙ sym (read-more 0 (take i digits) (get_or digits i 0)));
        small = rw (next, pow-suc) (omega (arith, so_far.small));
      }

  pub still_small : {i value : ℕ} → length digits ≤ 7 → i < length digits → ReadSoFar digits i value → value < 10 ^ 7
  still_small {i} few h so_far =
      let short : i ≤ 7 = omega arith in lt_of_lt_of_le so_far.small (pow-le-pow_right (omega arith) short)

  pub all_read : {i value : ℕ} → 1 ≤ length digits → length digits ≤ 7 → length digits ≤ i → ReadSoFar digits i value
      → limit_in digits ≡ some value
  unfolding from_digits
  all_read {i} {value} any few h so_far =
      rw (le-leb 1 (length digits) any, le-leb (length digits) 7 few)
      (ap some
      (read-digits [] digits ∙ sym (so_far.read ∙ ap (read_on 0) (take_all i digits h))))

  pub no_limit : (1 ≤ length digits → 7 < length digits) → limit_in digits ≡ none
  no_limit h =
      let wrong : between 1 7 (length digits) ≡ false =
      is_false (between 1 7 (length digits))
      (λ e. let (p, q) = in_interval 1 7 (length digits) e in omega (arith, h p)) in
      rw wrong refl

pub ruleset reading = (a_figure, one_read, still_small, all_read, no_limit)
