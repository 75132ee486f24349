-- What remains of a clean text at an offset: its first character, and the characters between two places.
use Prim.Native.Nat.{ℕ, zero, suc, ◌+◌, ◌-◌, ◌≤◌, ◌<◌}
use mathlib.Core.Path.{◌≡◌, refl, ap, sym, ◌∙◌}
use mathlib.Core.Bool.{Bool, true, false, cond, ◌&&◌}
use mathlib.Core.List.{List, [], ◌∷◌, ◌++◌, append_assoc}
use mathlib.Core.Option.{Option, none, some}
use native.Mathlib.Omega.{arith}
use native.Mathlib.Decide.{ℕ_discrete}
use lib.Dec.{eqb}
use lib.ListN.{length, take, drop, get_or, length-append, length-drop, drop_of_length-le}
use lib.Seq.{drop-cons, get_or-drop, take_at}
use borrow.Author.Tests.{ne_eqb, eqb-true}
use Rattle.calculus.specs.Characters.{sign, in_domain, width, joined, spelled, characters, bytes, first_outside}
use Rattle.words.specs.Places.{Clean, remains, char_of, bytes_of, name_of}

-- CE AND BB: a byte but CE is a character by itself
pub joined_byte : (b : ℕ) → (b ≡ 0xCE → ⊥) → (cs : List ℕ) → joined b cs ≡ b ∷ cs
joined_byte b h [] = refl
joined_byte b h (c ∷ cs) = rw (ne_eqb b 0xCE h)

pub joined-pair : (cs : List ℕ) → joined 0xCE (joined 0xBB cs) ≡ sign ∷ cs
joined-pair [] = refl
joined-pair (c ∷ cs) = refl

pub joined_alone : (c : ℕ) → (c ≡ 0xBB → ⊥) → (cs : List ℕ) → joined 0xCE (joined c cs) ≡ 0xCE ∷ joined c cs
joined_alone c n [] = rw (ne_eqb c 0xBB n)
joined_alone c n (d ∷ ds) = chosen (eqb c 0xCE && eqb d 0xBB)
  where
    chosen : (b : Bool) → joined 0xCE (cond b (sign ∷ ds) (c ∷ d ∷ ds)) ≡ 0xCE ∷ cond b (sign ∷ ds) (c ∷ d ∷ ds)
    chosen true = refl
    chosen false = rw (ne_eqb c 0xBB n)

-- bytes in which every CE stands before a BB
data Paired : List ℕ → Type 0 where
  nothing : Paired []
  byte : {b : ℕ} {s : List ℕ} → (b ≡ 0xCE → ⊥) → Paired s → Paired (b ∷ s)
  pair : {s : List ℕ} → Paired s → Paired (0xCE ∷ 0xBB ∷ s)

one_further : {m n : ℕ} {A : Type 0} → (m < n) × A → (suc m < suc n) × A
one_further q = (omega (arith, q.0), q.1)

paired_second : {s : List ℕ} → Paired s → (at : ℕ) → at < length s → get_or s at 0 ≡ 0xCE
    → (suc at < length s) × (get_or s (suc at) 0 ≡ 0xBB)
paired_second nothing at h e = absurd (omega arith)
paired_second (byte n p) zero h e = absurd (n e)
paired_second (byte n p) (suc at) h e = one_further (paired_second p at (omega arith) e)
paired_second (pair p) zero h e = (omega arith, refl)
paired_second (pair p) (suc zero) h e = absurd (omega arith)
paired_second (pair p) (suc (suc at)) h e = one_further (one_further (paired_second p at (omega arith) e))

-- what the search for a character outside the domain tells, if it finds none
first-inside : (b : Bool) (x : Option ℕ) (offset : ℕ) → cond b x (some offset) ≡ none → (b ≡ true) × (x ≡ none)
first-inside true x offset e = (refl, e)
first-inside false x offset e = let never : ◌≡◌ {A = ℕ} 0 1 = cc in absurd (omega arith)

after_first : (offset c : ℕ) (cs : List ℕ) → first_outside offset (c ∷ cs) ≡ none
    → first_outside (offset + width c) cs ≡ none
unfolding first_outside
after_first offset c cs e = (first-inside (in_domain c) (first_outside (offset + width c) cs) offset e).1

-- a CE that is a character by itself is outside the domain
no-lone : (offset : ℕ) (cs : List ℕ) → first_outside offset (0xCE ∷ cs) ≡ none → ⊥
unfolding first_outside
no-lone offset cs e = let never : ◌≡◌ {A = ℕ} 0 1 = cc in omega arith

paired : (s : List ℕ) (offset : ℕ) → first_outside offset (characters s) ≡ none → Paired s
unfolding characters
paired [] offset e = nothing
paired (b ∷ []) offset e =
    elim (ℕ_discrete b 0xCE) [ yes f ↦ absurd (no-lone offset [] (rw f at e)) | no n ↦ byte n nothing ]
paired (b ∷ c ∷ s) offset e =
    elim (ℕ_discrete b 0xCE) [
      | no n ↦
          let cs : List ℕ = characters (c ∷ s) in
          byte n (paired (c ∷ s) (offset + width b) (after_first offset b cs (rw (joined_byte b n cs) at e)))
      | yes f ↦
          let cs : List ℕ = characters s in
          elim (ℕ_discrete c 0xBB) [
            | no n ↦ absurd (no-lone offset (joined c cs) (rw (f, joined_alone c n cs) at e))
            | yes g ↦
                let after : first_outside (offset + width sign) cs ≡ none =
                after_first offset sign cs (rw (f, g, joined-pair cs) at e) in
                rw (f, g) (pair (paired s (offset + width sign) after))
          ]
    ]

clean_paired : {s : List ℕ} → Clean s → Paired s
clean_paired {s} clean = paired s 0 clean.domain

-- EVERY CE OF A CLEAN TEXT STANDS BEFORE A BB
pub signs : {s : List ℕ} → Clean s → (at : ℕ) → at < length s → get_or s at 0 ≡ 0xCE
    → (suc at < length s) × (get_or s (suc at) 0 ≡ 0xBB)
signs clean = paired_second (clean_paired clean)

-- WHAT REMAINS: nothing at the end, and elsewhere a character before what remains after its bytes
pub remains_end : (s : List ℕ) (at : ℕ) → length s ≤ at → remains s at ≡ []
unfolding remains
remains_end s at h = rw (drop_of_length-le s h)

pub remains_byte : (s : List ℕ) (at : ℕ) → at < length s → (get_or s at 0 ≡ 0xCE → ⊥)
    → remains s at ≡ get_or s at 0 ∷ remains s (suc at)
unfolding remains
remains_byte s at h b = rw (drop-cons s at 0 h) (joined_byte (get_or s at 0) b (characters (drop (suc at) s)))

pub remains-sign : (s : List ℕ) (at : ℕ) → suc at < length s → get_or s at 0 ≡ 0xCE → get_or s (suc at) 0 ≡ 0xBB
    → remains s at ≡ sign ∷ remains s (suc (suc at))
unfolding remains
remains-sign s at h b c =
    rw (drop-cons s at 0 (omega arith), drop-cons s (suc at) 0 h, b, c)
    (joined-pair (characters (drop (suc (suc at)) s)))

pub remains_char : (s : List ℕ) (at : ℕ) → Clean s → at < length s
    → remains s at ≡ char_of (get_or s at 0) ∷ remains s (at + bytes_of (get_or s at 0))
remains_char s at clean h =
    elim (ℕ_discrete (get_or s at 0) 0xCE) [
      | yes e ↦
          let (inside, second) = signs clean at h e in
          let two : suc (suc at) ≡ at + 2 = omega arith in
          rw e (rw two at (remains-sign s at inside e second))
      | no n ↦
          let one : suc at ≡ at + 1 = omega arith in
          rw (ne_eqb (get_or s at 0) 0xCE n) (rw one at (remains_byte s at h n))
    ]

-- BYTES AND BACK: characters have the bytes that they were read from
bytes-joined : (b : ℕ) → b < 256 → (cs : List ℕ) → bytes (joined b cs) ≡ b ∷ bytes cs
unfolding bytes
bytes-joined b h [] = rw (ne_eqb b sign (λ e. omega arith))
bytes-joined b h (c ∷ cs) = chosen (eqb b 0xCE) (eqb c 0xBB) (eqb-true b 0xCE) (eqb-true c 0xBB)
  where
    chosen : (p q : Bool) → (p ≡ true → b ≡ 0xCE) → (q ≡ true → c ≡ 0xBB)
        → bytes (cond (p && q) (sign ∷ cs) (b ∷ c ∷ cs)) ≡ b ∷ bytes (c ∷ cs)
    chosen true true f g = rw (f refl, g refl)
    chosen true false f g = rw (ne_eqb b sign (λ e. omega arith))
    chosen false q f g = rw (ne_eqb b sign (λ e. omega arith))

pub bytes-characters : (u : List ℕ) → ((at : ℕ) → get_or u at 0 < 256) → bytes (characters u) ≡ u
unfolding characters bytes
bytes-characters [] h = refl
bytes-characters (b ∷ u) h =
    bytes-joined b (h 0) (characters u) ∙ ap (λ s. b ∷ s) (bytes-characters u (λ at. h (suc at)))

bytes_before : (x v : List ℕ) → ((at : ℕ) → get_or v at 0 < 256) → bytes (x ++ characters v) ≡ bytes x ++ v
unfolding bytes
bytes_before [] v h = bytes-characters v h
bytes_before (c ∷ x) v h =
    ap (λ s. spelled c ++ s) (bytes_before x v h) ∙ sym (append_assoc (spelled c) (bytes x) v)

-- characters of which no CE is one are read from their bytes
data Unbroken : List ℕ → Type 0 where
  no_more : Unbroken []
  and_then : {c : ℕ} {cs : List ℕ} → (c ≡ 0xCE → ⊥) → Unbroken cs → Unbroken (c ∷ cs)

characters-bytes : {x : List ℕ} → Unbroken x → characters (bytes x) ≡ x
unfolding characters bytes
characters-bytes no_more = refl
characters-bytes (and_then {c} {cs} n u) =
    elim (ℕ_discrete c sign) [
      | yes e ↦ rw (e, characters-bytes u) (joined-pair cs)
      | no m ↦ rw (ne_eqb c sign m, characters-bytes u) (joined_byte c n cs)
    ]

unbroken : {s : List ℕ} → Paired s → Unbroken (characters s)
unfolding characters
unbroken nothing = no_more
unbroken (byte {b} {s} n p) = rw (joined_byte b n (characters s)) (and_then n (unbroken p))
unbroken (pair {s} p) = rw (joined-pair (characters s)) (and_then {c = sign} (λ e. omega arith) (unbroken p))

unbroken_start : (x y : List ℕ) → Unbroken (x ++ y) → Unbroken x
unbroken_start [] y u = no_more
unbroken_start (c ∷ x) y (and_then n u) = and_then n (unbroken_start x y u)

-- from any offset on, even between a CE and its BB
paired_after : {b : ℕ} {s : List ℕ} → Paired (b ∷ s) → Paired s
paired_after (byte n p) = p
paired_after (pair p) = byte {b = 0xBB} (λ e. omega arith) p

paired_drop : (s : List ℕ) (at : ℕ) → Paired s → Paired (drop at s)
paired_drop s zero p = p
paired_drop [] (suc at) p = p
paired_drop (b ∷ s) (suc at) p = paired_drop s at (paired_after p)

pub bytes_after : {s : List ℕ} → Clean s → (n at : ℕ) → get_or (drop n s) at 0 < 256
bytes_after {s} clean n at = rw (get_or-drop n s at 0) (clean.only_bytes (n + at))

-- THE CHARACTERS BETWEEN TWO PLACES are a name's
pub between-places : (s x : List ℕ) (from to : ℕ) → Clean s → from ≤ to → to ≤ length s
    → remains s from ≡ x ++ remains s to → name_of s (record { from = from; to = to }) ≡ x
unfolding remains
between-places s x from to clean h k e =
    let whole : drop from s ≡ bytes x ++ drop to s =
    sym (bytes-characters (drop from s) (bytes_after clean from))
    ∙ ap bytes e
    ∙ bytes_before x (drop to s) (bytes_after clean to) in
    let total : length s - from ≡ length (bytes x) + (length s - to) =
    sym (length-drop from s)
    ∙ ap length whole
    ∙ length-append (bytes x) (drop to s)
    ∙ ap (λ n. length (bytes x) + n) (length-drop to s) in
    let dropped : Paired (drop from s) = paired_drop s from (clean_paired clean) in
    ap (λ l. characters (take (to - from) l)) whole
    ∙ ap characters (take_at (bytes x) (drop to s) (to - from) (omega arith))
    ∙ characters-bytes (unbroken_start x (characters (drop to s)) (rw e at (unbroken dropped)))
