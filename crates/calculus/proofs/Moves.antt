-- The next word moves the reading place forward, and an invalid character is one of the text.
use Prim.Native.Nat.{ℕ, zero, suc, ◌+◌, ◌≤◌, ◌<◌}
use mathlib.Core.Path.{◌≡◌, refl, ap, ◌∙◌}
use mathlib.Core.Bool.{Bool, true, false, cond}
use mathlib.Core.List.{List, [], ◌∷◌, ◌++◌}
use mathlib.Core.Option.{Option, none, some}
use native.Mathlib.Omega.{arith}
use lib.Dec.{leb, eqb}
use lib.ListN.{length, length-append}
use Rattle.calculus.specs.Bounds.{greatest_number}
use Rattle.calculus.specs.Characters.{white}
use Rattle.calculus.specs.Refusal.{Refusal, invalid_character, Answer}
use Rattle.calculus.specs.Words.{Word, Next, ended, word, invalid, start, rest, invalid_in, on_next, words_from}
use Rattle.calculus.specs.DeBruijn as db
use Rattle.calculus.specs.DeBruijn.{bracketed}
use Rattle.calculus.specs.Classic as cl
use Rattle.calculus.specs.Classic.{in_name, in_binder, is_figure}
use Rattle.calculus.specs.Reading.{Notation, de_bruijn, classic, next}

-- where a start of characters that pass a test stops, and where it goes on
module _ (test : ℕ → Bool) (c : ℕ) (cs : List ℕ) where
  pub rest-stops : test c ≡ false → rest test (c ∷ cs) ≡ c ∷ cs
  unfolding rest
  rest-stops e = rw (rest, e)

  pub start-stops : test c ≡ false → start test (c ∷ cs) ≡ []
  unfolding start
  start-stops e = rw (start, e)

  pub rest_goes : test c ≡ true → rest test (c ∷ cs) ≡ rest test cs
  unfolding rest
  rest_goes e = rw (rest, e)

  pub start-goes : test c ≡ true → start test (c ∷ cs) ≡ c ∷ start test cs
  unfolding start
  start-goes e = rw (start, e)

-- what remains at some place of a list
pub data Tail : List ℕ → List ℕ → Type 0 where
  whole : {cs : List ℕ} → Tail cs cs
  later : {at cs : List ℕ} {c : ℕ} → Tail at cs → Tail at (c ∷ cs)

pub tail_length : {at cs : List ℕ} → Tail at cs → length at ≤ length cs
tail_length whole = omega arith
tail_length (later t) = omega (arith, tail_length t)

pub tail_tail : {a b c : List ℕ} → Tail a b → Tail b c → Tail a c
tail_tail t whole = t
tail_tail t (later u) = later (tail_tail t u)

-- past the first of what remains
pub past : {c : ℕ} {at cs : List ℕ} → Tail (c ∷ at) cs → Tail at cs
past t = tail_tail (later whole) t

pub rest_tail : (test : ℕ → Bool) (cs : List ℕ) → Tail (rest test cs) cs
unfolding rest
rest_tail test [] = whole
rest_tail test (c ∷ cs) =
    elim (test c) as (λ b. Tail (elim b [ true ↦ rest test cs | false ↦ c ∷ cs ]) (c ∷ cs)) [
      | true ↦ later (rest_tail test cs)
      | false ↦ whole
    ]

-- a word takes one character or more, and an invalid character is the first of what remains there
pub data Moves (all : List ℕ) : Next → Type 0 where
  to_the_end : Moves all ended
  past_a_word : {w : Word} {c : ℕ} {cs after : List ℕ} → Tail (c ∷ cs) all → Tail after cs → Moves all (word w after)
  to_an_invalid : {c : ℕ} {at : List ℕ} → Tail (c ∷ at) all → Moves all (invalid (c ∷ at))

either : (b : Bool) {all : List ℕ} {x y : Next} → Moves all x → Moves all y → Moves all (cond b x y)
either true p q = p
either false p q = q

-- DE BRUIJN: inside brackets, of which the first stands at a tail
module _ (all : List ℕ) (o : ℕ) (os : List ℕ) (bracket : Tail (o ∷ os) all) where
  moves-ended : (i : Option ℕ) (c : ℕ) (cs : List ℕ) → Tail (c ∷ cs) all → Moves all (db.index_ended i (c ∷ cs) cs)
  moves-ended none c cs t = to_an_invalid t
  moves-ended (some i) c cs t = past_a_word t whole

  moves-glyph : (g : db.Glyph) (i : Option ℕ) (c : ℕ) (cs : List ℕ) → Tail (c ∷ cs) all
      → (go : Option ℕ → Next) → ((j : Option ℕ) → Moves all (go j)) → Moves all (db.on_glyph g i (c ∷ cs) cs go)
  moves-glyph (db.digit d) i c cs t go m =
      either (leb (db.lengthened i d) greatest_number) (m (some (db.lengthened i d))) (to_an_invalid t)
  moves-glyph db.end_bracket i c cs t go m = moves-ended i c cs t
  moves-glyph db.lambda i c cs t go m = to_an_invalid t
  moves-glyph db.left i c cs t go m = to_an_invalid t
  moves-glyph db.right i c cs t go m = to_an_invalid t
  moves-glyph db.bracket i c cs t go m = to_an_invalid t
  moves-glyph db.strange i c cs t go m = to_an_invalid t

  moves-bracketed : (cs : List ℕ) → Tail cs all → (i : Option ℕ) → Moves all (bracketed (o ∷ os) i cs)
  unfolding bracketed
  moves-bracketed [] t i = to_an_invalid bracket
  moves-bracketed (c ∷ cs) t i =
      moves-glyph (db.glyph c) i c cs t (λ j. bracketed (o ∷ os) j cs) (moves-bracketed cs (past t))

module _ (all : List ℕ) where
  moves-de_bruijn : (c : ℕ) (cs : List ℕ) → Tail (c ∷ cs) all → (g : db.Glyph) → Moves all (db.word_at g c cs)
  unfolding db.word_at
  moves-de_bruijn c cs t db.lambda = past_a_word t whole
  moves-de_bruijn c cs t db.left = past_a_word t whole
  moves-de_bruijn c cs t db.right = past_a_word t whole
  moves-de_bruijn c cs t (db.digit d) = past_a_word t whole
  moves-de_bruijn c cs t db.bracket = moves-bracketed all c cs t cs (past t) none
  moves-de_bruijn c cs t db.end_bracket = to_an_invalid t
  moves-de_bruijn c cs t db.strange = to_an_invalid t

  -- CLASSIC
  moves-binder : {c : ℕ} {cs : List ℕ} (x at : List ℕ) → Tail (c ∷ cs) all → Tail at cs
      → Moves all (cl.binder_ended x at)
  unfolding cl.binder_ended
  moves-binder x [] t u = past_a_word t u
  moves-binder x (e ∷ at) t u = either (eqb e 46) (past_a_word t (past u)) (to_an_invalid (tail_tail u (past t)))

  moves-bound : {c : ℕ} (cs : List ℕ) → Tail (c ∷ cs) all → Moves all (cl.binder_at cs)
  unfolding cl.binder_at
  moves-bound [] t = past_a_word t whole
  moves-bound (e ∷ cs) t =
      let name : List ℕ = start in_binder (e ∷ cs) in
      either (is_figure e) (to_an_invalid (past t))
      (moves-binder name (rest in_binder (e ∷ cs)) t (rest_tail in_binder (e ∷ cs)))

  moves-classic : (c : ℕ) (cs : List ℕ) → Tail (c ∷ cs) all → (g : cl.Glyph) → Moves all (cl.word_at g c cs)
  unfolding cl.word_at
  moves-classic c cs t cl.lambda = moves-bound cs t
  moves-classic c cs t cl.left = past_a_word t whole
  moves-classic c cs t cl.right = past_a_word t whole
  moves-classic c cs t cl.letter = past_a_word t (rest_tail in_name cs)
  moves-classic c cs t cl.strange = to_an_invalid t

  -- at the first of what remains after white space
  first-de_bruijn : (cs : List ℕ) → Tail cs all → Moves all (db.first_word cs)
  unfolding db.first_word
  first-de_bruijn [] t = to_the_end
  first-de_bruijn (c ∷ cs) t = moves-de_bruijn c cs t (db.glyph c)

  first-classic : (cs : List ℕ) → Tail cs all → Moves all (cl.first_word cs)
  unfolding cl.first_word
  first-classic [] t = to_the_end
  first-classic (c ∷ cs) t = moves-classic c cs t (cl.glyph c)

-- THE READING PLACE MOVES FORWARD
pub moves : (n : Notation) (cs : List ℕ) → Moves cs (next n cs)
unfolding next
moves de_bruijn cs = first-de_bruijn cs (rest white cs) (rest_tail white cs)
moves classic cs = first-classic cs (rest white cs) (rest_tail white cs)

moved : {all after : List ℕ} {w : Word} → Moves all (word w after) → length after < length all
moved (past_a_word t u) = omega (arith, tail_length t, tail_length u)

pub next_shorter : (n : Notation) (cs : List ℕ) {after : List ℕ} {w : Word} → next n cs ≡ word w after
    → length after < length cs
next_shorter n cs e = moved (rw e at (moves n cs))

next-nothing : (n : Notation) → next n [] ≡ ended
unfolding next
next-nothing de_bruijn = refl
next-nothing classic = refl

-- two ways to go on that agree on what is shorter
on_shorter : {cs : List ℕ} {x : Next} (refusal : List ℕ → Refusal) (f g : List ℕ → Answer (List Word)) → Moves cs x
    → ((after : List ℕ) → length after < length cs → f after ≡ g after) → on_next refusal x f ≡ on_next refusal x g
on_shorter refusal f g to_the_end same = refl
on_shorter refusal f g (past_a_word {w} {after} t u) same = rw (same after (moved (past_a_word {w = w} t u)))
on_shorter refusal f g (to_an_invalid t) same = refl

-- so as many steps as characters are enough: more give the same words
pub words-enough : (n : Notation) (refusal : List ℕ → Refusal) (j k : ℕ) (cs : List ℕ)
    → length cs ≤ j → length cs ≤ k → words_from (next n) refusal j cs ≡ words_from (next n) refusal k cs
unfolding words_from
words-enough n refusal zero zero cs f g = refl
words-enough n refusal zero (suc k) [] f g = rw (next-nothing n)
words-enough n refusal zero (suc k) (c ∷ cs) f g = absurd (omega arith)
words-enough n refusal (suc j) zero [] f g = rw (next-nothing n)
words-enough n refusal (suc j) zero (c ∷ cs) f g = absurd (omega arith)
words-enough n refusal (suc j) (suc k) cs f g =
    on_shorter refusal (words_from (next n) refusal j) (words_from (next n) refusal k) (moves n cs)
    (λ after h. words-enough n refusal j k after (omega arith) (omega arith))

-- the characters before what remains
unfoldable pub before : {at cs : List ℕ} → Tail at cs → List ℕ
before whole = []
before (later {c = c} t) = c ∷ before t

pub tail_splits : {at cs : List ℕ} (t : Tail at cs) → cs ≡ before t ++ at
unfolding before
tail_splits whole = refl
tail_splits (later {c = c} t) = ap (λ cs. c ∷ cs) (tail_splits t)

length_splits : {at cs : List ℕ} (t : Tail at cs) → length cs ≡ length (before t) + length at
length_splits {at} t = ap length (tail_splits t) ∙ length-append (before t) at

-- THE PLACE OF AN INVALID CHARACTER: as many characters stand before it
pub invalid-place : {c : ℕ} {at text : List ℕ} (t : Tail (c ∷ at) text)
    → invalid_in text (c ∷ at) ≡ invalid_character (length (before t)) c
unfolding invalid_in
invalid-place {c} t = ap (λ place. invalid_character place c) (omega (arith, length_splits t))
