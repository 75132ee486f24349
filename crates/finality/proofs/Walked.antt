-- The words that a term is written with are walked to its tokens: they nest at most height - 1 deep.
use Prim.Native.Nat.{ℕ, zero, suc, ◌+◌, ◌-◌, ◌≤◌, ◌<◌}
use mathlib.Core.Path.{◌≡◌, refl, ◌∙◌}
use mathlib.Core.Bool.{true, false}
use mathlib.Core.List.{List, [], ◌∷◌, ◌++◌, append_assoc, append-nil}
use mathlib.Core.Option.{some}
use native.Mathlib.Omega.{arith}
use native.Mathlib.Decide.{ℕ_discrete}
use lib.Dec.{leb}
use lib.ListN.{length}
use Rattle.calculus.specs.Term.{Term, var, lam, app, height, greatest_index}
use Rattle.calculus.specs.Bounds.{greatest_number}
use Rattle.calculus.specs.Queries.{has_free}
use Rattle.calculus.specs.Numbers.{between}
use Rattle.calculus.specs.Refusal.{given}
use Rattle.calculus.specs.Words.{Name, Word, binder, opening, closing, number, name}
use Rattle.calculus.specs.Walk.{Token, right, index, Open, group, bound, resolved, walk}
use Rattle.calculus.specs.Reading.{Notation, de_bruijn, classic}
use Rattle.calculus.specs.Writing.{Layout, grouped, as_left, as_right, written, name_text}
use borrow.Author.Tests.{le-leb}
use Rattle.calculus.proofs.Measures.{height_positive}
use Rattle.calculus.proofs.Tests.{flipped, neither, in_interval}
use Rattle.calculus.proofs.Names.{same_text-refl, other_name}
use Rattle.calculus.proofs.Sequences.{Ends, at_the_end, at_a_right}
use Rattle.finality.specs.Readable.{Readable}
use Rattle.finality.proofs.Tokens.{in_tokens, tokens}

abbrev pub binder-name : Notation → ℕ → Name
binder-name de_bruijn d = []
binder-name classic d = name_text d

abbrev pub variable-word : Notation → (d i : ℕ) → Word
variable-word de_bruijn d i = number i
variable-word classic d i = name (name_text (d - i))

abbrev pub in_words : Notation → Layout Word
in_words n =
    record {
      binder = λ d. binder (binder-name n d) ∷ [];
      variable = λ d i. variable-word n d i ∷ [];
      gap = [];
      left = opening;
      right = closing;
    }

-- what a readable term says of an index under d abstractions, of a body and of two parts
abbrev pub Fits : Notation → (d i : ℕ) → Type 0
Fits de_bruijn d i = i ≤ greatest_number
Fits classic d i = (0 < i) × (i ≤ d)

pub readable-index : (n : Notation) (d i : ℕ) → Readable n d (var i) → Fits n d i
unfolding greatest_index has_free
readable-index de_bruijn d i f = f
readable-index classic d i f = in_interval 1 d i (flipped (between 1 d i) false f)

pub readable-body : (n : Notation) (d : ℕ) (b : Term) → Readable n d (lam b) → Readable n (suc d) b
unfolding greatest_index has_free
readable-body de_bruijn d b f = f
readable-body classic d b f = f

pub readable-parts : (n : Notation) (d : ℕ) (l r : Term) → Readable n d (app l r) → Readable n d l × Readable n d r
unfolding greatest_index has_free
readable-parts de_bruijn d l r f = (omega arith, omega arith)
readable-parts classic d l r f = neither (has_free d l) (has_free d r) f

-- what is open under d abstractions of a written term
data Scope (n : Notation) : ℕ → List Open → Type 0 where
  outermost : Scope n 0 []
  in_group : {d : ℕ} {os : List Open} → Scope n d os → Scope n d (group ∷ os)
  under : {d : ℕ} {os : List Open} → Scope n d os → Scope n (suc d) (bound (binder-name n d) ∷ os)

depth_open : {n : Notation} {d : ℕ} {os : List Open} → Scope n d os → d ≤ length os
depth_open outermost = omega arith
depth_open (in_group s) = omega (arith, depth_open s)
depth_open (under s) = omega (arith, depth_open s)

-- the binder at depth k, of d open ones whose innermost counts as j, counts as i
resolved-name : {d : ℕ} {os : List Open} → Scope classic d os → d ≤ greatest_number
    → (k i j : ℕ) → k < d → suc (k + i) ≡ d + j → resolved (name_text k) j os ≡ some i
unfolding resolved
resolved-name outermost named k i j h e = absurd (omega arith)
resolved-name (in_group s) named k i j h e = resolved-name s named k i j h e
resolved-name (under {d} s) named k i j h e =
    elim (ℕ_discrete k d) [
      | yes here ↦ let innermost : j ≡ i = omega arith in rw (here, same_text-refl (name_text d), innermost)
      | no there ↦
          rw (other_name k d (omega arith) (omega arith) there)
          (resolved-name s (omega arith) k i (suc j) (omega arith) (omega arith))
    ]

-- words are walked to tokens wherever there is room for so many levels
abbrev Walks : Notation → (most d levels : ℕ) → List Word → List Token → Type 0
Walks n most d levels xs ks = (os : List Open) → Scope n d os → length os + levels ≤ suc most
    → (ws : List Word) (ts : List Token) → walk most os ws ≡ given ts → walk most os (xs ++ ws) ≡ given (ks ++ ts)

of_var : (n : Notation) (most : ℕ) → most ≤ greatest_number → (d i : ℕ) → Fits n d i
    → Walks n most d 1 (variable-word n d i ∷ []) (index i ∷ [])
unfolding walk
of_var de_bruijn most named d i f os s room ws ts e = rw e
of_var classic most named d zero f os s room ws ts e = absurd (omega arith)
of_var classic most named d (suc i) f os s room ws ts e =
    let deep : d ≤ greatest_number = omega (arith, depth_open s) in
    rw (resolved-name s deep (d - suc i) (suc i) 1 (omega arith) (omega arith), e)

-- there is room to open one more around a term
room_to_open : (most : ℕ) (os : List Open) (t : Term) → length os + suc (height t) ≤ suc most
    → leb (suc (length os)) most ≡ true
room_to_open most os t room = le-leb (suc (length os)) most (omega (arith, height_positive t))

-- a binder that is open where a sequence ends changes nothing after it
binder-ends : (most : ℕ) {ws : List Word} → Ends closing ws → (x : Name) (os : List Open)
    → walk most (bound x ∷ os) ws ≡ walk most os ws
unfolding walk
binder-ends most at_the_end x os = refl
binder-ends most at_a_right x os = refl

module _ (n : Notation) (most : ℕ) (named : most ≤ greatest_number) where
  abbrev words_of : ℕ → Term → List Word
  words_of d t = written (in_words n) d t

  -- a term's words: where its sequence ends after them; as a left part; as a right part
  abbrev Whole : ℕ → Term → Type 0
  Whole d t = (os : List Open) → Scope n d os → length os + height t ≤ suc most → (ws : List Word) (ts : List Token)
      → Ends closing ws → walk most os ws ≡ given ts → walk most os (words_of d t ++ ws) ≡ given (tokens d t ++ ts)

  abbrev Head : ℕ → Term → Type 0
  Head d t =
      Walks n most d (suc (height t)) (as_left (in_words n) t (words_of d t)) (as_left in_tokens t (tokens d t))

  abbrev Item : ℕ → Term → Type 0
  Item d t =
      Walks n most d (suc (height t)) (as_right (in_words n) t (words_of d t)) (as_right in_tokens t (tokens d t))

  of_group : (d : ℕ) (t : Term) → Whole d t
      → Walks n most d (suc (height t)) (grouped (in_words n) (words_of d t)) (grouped in_tokens (tokens d t))
  unfolding walk
  of_group d t whole os s room ws ts e =
      let after : walk most (group ∷ os) (closing ∷ ws) ≡ given (right ∷ ts) = rw e in
      let inside = whole (group ∷ os) (in_group s) (omega arith) (closing ∷ ws) (right ∷ ts) at_a_right after in
      simp append_assoc (rw (room_to_open most os t room, inside))

  of_lam : (d : ℕ) (b : Term) → Whole (suc d) b → Whole d (lam b)
  unfolding walk written height
  of_lam d b whole os s room ws ts ends e =
      let x : Name = binder-name n d in
      let inside = whole (bound x ∷ os) (under s) (omega arith) ws ts ends (binder-ends most ends x os ∙ e) in
      rw (room_to_open most os b room, inside)

  of_app : (d : ℕ) (l r : Term) → Head d l → Item d r
      → Walks n most d (height (app l r)) (words_of d (app l r)) (tokens d (app l r))
  unfolding written height
  of_app d l r head item os s room ws ts e =
      simp append_assoc (head os s (omega arith) _ _ (item os s (omega arith) ws ts e))

  of_right : (d : ℕ) (t : Term) → Readable n d t → Whole d t → Item d t
  unfolding written height
  of_right d (var i) f whole = λ os s room. of_var n most named d i (readable-index n d i f) os s (omega arith)
  of_right d (lam b) f whole = of_group d (lam b) whole
  of_right d (app l r) f whole = of_group d (app l r) whole

  both : (d : ℕ) (t : Term) → Readable n d t → Whole d t × Head d t
  unfolding written height
  both d (var i) f =
      let one = of_var n most named d i (readable-index n d i f) in
      (λ os s room ws ts ends e. one os s room ws ts e, λ os s room. one os s (omega arith))
  both d (lam b) f =
      let whole : Whole d (lam b) = of_lam d b (both (suc d) b (readable-body n d b f)).0 in
      (whole, of_group d (lam b) whole)
  both d (app l r) f =
      let (fl, fr) = readable-parts n d l r f in
      let spine = of_app d l r (both d l fl).1 (of_right d r fr (both d r fr).0) in
      (λ os s room ws ts ends e. spine os s room ws ts e, λ os s room. spine os s (omega arith))

-- A WRITTEN TERM NESTS AT MOST HEIGHT - 1 DEEP: a walk that allows so many open gives its tokens
pub walked : (n : Notation) (most : ℕ) (t : Term) → Readable n 0 t → height t ≤ suc most → most ≤ greatest_number
    → walk most [] (written (in_words n) 0 t) ≡ given (tokens 0 t)
unfolding walk
walked n most t f high named =
    simp append-nil at ((both n most named 0 t f).0 [] outermost (omega arith) [] [] at_the_end refl)
