-- What a step tells: a word that is passed, or none at the place itself.
use Prim.Native.Nat.{ℕ, ◌+◌, ◌-◌, ◌≤◌, ◌<◌}
use mathlib.Core.Path.{◌≡◌, refl, ap, ◌∙◌}
use mathlib.Core.List.{List, [], ◌∷◌}
use native.Mathlib.Omega.{arith}
use lib.ListN.{length, get_or}
use Rattle.calculus.specs.Characters.{characters, white}
use Rattle.calculus.specs.Words.{Next, ended, word, invalid, binder}
use Rattle.calculus.specs.DeBruijn as de_bruijn
use Rattle.calculus.specs.Classic as classic
use Rattle.calculus.specs.Reading as notation
use Rattle.calculus.specs.Reading.{next}
use Rattle.words.specs.Places.{Placed, remains, char_of, name_of}
use Rattle.words.specs.Runs.{Over}
use Rattle.words.specs.Steps.{told, Names, taken, Last, Tells}
use Rattle.words.specs.declared.Cursor.{Cursor}
use Rattle.words.specs.declared.Name.{Name}
use Rattle.words.specs.declared.Step.{Step}
use Rattle.words.specs.declared.Word.{Word}
use Rattle.words.specs.declared.Word.TheVariants.{End, Binder, Left, Right, Number, Named, Invalid}
use Rattle.words.proofs.Remaining.{remains_end}
use Rattle.words.proofs.Passing.{Stands, Past, past-told, past-further, first_char}

-- a step that tells what is expected, takes a byte if it has a word, and ends with the text
abbrev pub Moves : List ℕ → Cursor → Next → Step → Type 0
Moves s from expected r = Tells s from expected r × (from.at + taken r.word ≤ r.next.at) × Last s r

invalid-no_end : Invalid ≡ End → ⊥
invalid-no_end is = let never : ◌≡◌ {A = ℕ} 0 1 = cc is in omega arith

-- a word that is neither of the two others takes a byte
pub word_taken : (w : Word) → (w ≡ End → ⊥) → (w ≡ Invalid → ⊥) → taken w ≡ 1
word_taken End e i = absurd (e refl)
word_taken (Binder x) e i = refl
word_taken Left e i = refl
word_taken Right e i = refl
word_taken (Number n) e i = refl
word_taken (Named x) e i = refl
word_taken Invalid e i = absurd (i refl)

pub one_taken : (w : Word) → taken w ≤ 1
one_taken End = omega arith
one_taken (Binder x) = omega arith
one_taken Left = omega arith
one_taken Right = omega arith
one_taken (Number i) = omega arith
one_taken (Named x) = omega arith
one_taken Invalid = omega arith

module _ {s : List ℕ} {from : Cursor} {expected : Next} where
  -- where a character is invalid
  pub stops : {r : Cursor} → Placed s r → from.at ≤ r.at → expected ≡ invalid (remains s r.at)
      → Moves s from expected (record { word = Invalid; next = r })
  stops placed h e =
      (record { placed = placed; forward = h; names = tt; tells = e }, omega arith, λ is. absurd (invalid-no_end is))

  -- past a word
  pub goes : {r : Cursor} → Placed s r → from.at < r.at → (w : Word) → taken w ≡ 1 → Names s w
      → expected ≡ told s w (remains s r.at) → Moves s from expected (record { word = w; next = r })
  goes placed h w one names e = (
    record { placed = placed; forward = omega arith; names = names; tells = e },
    omega arith,
    λ is. absurd (omega (arith, ap taken is)),
  )

-- NO NAME
pub no_name : (s : List ℕ) {at : ℕ} {x : Name} → (x.from ≡ at) × (x.to ≡ at) → [] ≡ name_of s x
unfolding characters
no_name s {x = x} (e, f) = let none : x.to - x.from ≡ 0 = omega (arith, e, f) in rw none

pub unnamed-inside : {s : List ℕ} {here : Cursor} {x : Name} → 0 < here.at → Placed s here
    → (x.from ≡ here.at) × (x.to ≡ here.at) → Names s (Binder x)
unnamed-inside h placed (e, f) =
    (omega (arith, e), record { forward = omega (arith, e, f); within = omega (arith, f, placed.inside) })

-- a character is invalid, whatever follows
abbrev pub Wrong : (List ℕ → Next) → ℕ → Type 0
Wrong first c = (cs : List ℕ) → first (c ∷ cs) ≡ invalid (c ∷ cs)

-- THE WORD THAT BEGINS HERE, whatever the notation
module _ (first : List ℕ → Next) where
  pub ends : {s : List ℕ} {here : Cursor} → Placed s here → length s ≤ here.at → first [] ≡ ended
      → Moves s here (first (remains s here.at)) (record { word = End; next = here })
  ends {s} {here} placed h e =
      let tells = ap first (remains_end s here.at h) ∙ e in
      (record { placed = placed; forward = omega arith; names = tt; tells = tells }, omega arith, λ is. h)

  module _ {s : List ℕ} {here : Cursor} (stands : Stands s here) where
    -- a word of one character
    pub goes-past : {r : Cursor} → Past s here r → (w : Word) → taken w ≡ 1 → Names s w
        → first (char_of (get_or s here.at 0) ∷ remains s r.at) ≡ told s w (remains s r.at)
        → Moves s here (first (remains s here.at)) (record { word = w; next = r })
    goes-past past w one names e =
        goes past.1 (past-further stands past) w one names (ap first (first_char stands past) ∙ e)

    -- a binder without a name
    pub binds-nothing : {r : Cursor} → Past s here r → {x : Name} → (x.from ≡ r.at) × (x.to ≡ r.at)
        → first (char_of (get_or s here.at 0) ∷ remains s r.at) ≡ word (binder []) (remains s r.at)
        → Moves s here (first (remains s here.at)) (record { word = Binder x; next = r })
    binds-nothing {r} past {x} same e =
        let names = unnamed-inside (omega (arith, past-further stands past)) past.1 same in
        goes-past past (Binder x) refl names (e ∙ ap (λ x. word (binder x) (remains s r.at)) (no_name s same))

    pub wrong_here : Wrong first (char_of (get_or s here.at 0))
        → first (remains s here.at) ≡ invalid (remains s here.at)
    wrong_here e = rw (first_char stands (past-told stands refl)) (e _)

    pub stops-here : Wrong first (char_of (get_or s here.at 0))
        → Moves s here (first (remains s here.at)) (record { word = Invalid; next = here })
    stops-here e = stops stands.1 (omega arith) (wrong_here e)

-- WHITE SPACE before a word is passed
module _ {s : List ℕ} {from here : Cursor} (over : Over s white from here) {r : Step} where
  farther : {expected wanted : Next} → wanted ≡ expected → Moves s here expected r → Moves s from wanted r
  farther e (t, h, last) = (
    record {
      placed = t.placed;
      forward = omega (arith, t.forward, over.forward);
      names = t.names;
      tells = e ∙ t.tells;
    },
    omega (arith, h, over.forward),
    last,
  )

  pub next_de_bruijn : Moves s here (de_bruijn.first_word (remains s here.at)) r
      → Moves s from (next notation.de_bruijn (remains s from.at)) r
  unfolding next
  next_de_bruijn m = farther (ap de_bruijn.first_word over.after) m

  pub next_classic : Moves s here (classic.first_word (remains s here.at)) r
      → Moves s from (next notation.classic (remains s from.at)) r
  unfolding next
  next_classic m = farther (ap classic.first_word over.after) m
