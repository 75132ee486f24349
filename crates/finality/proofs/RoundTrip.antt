-- What is written is read back.
use Prim.Native.Nat.{ℕ, zero, suc, ◌≤◌}
use mathlib.Core.Path.{◌≡◌, refl}
use mathlib.Core.List.{List, [], ◌∷◌, ◌++◌, append_assoc, append-nil}
use native.Mathlib.Omega.{arith}
use lib.ListN.{length}
use Rattle.calculus.specs.Term.{Term, var, lam, app, nodes, height}
use Rattle.calculus.specs.Bounds.{most_nodes, most_height, most_open, most_text}
use Rattle.calculus.specs.Refusal.{Refusal, given}
use Rattle.calculus.specs.Queries.{max_depth}
use Rattle.calculus.specs.Words.{Word, ended, word, binder, closing, words_from, words}
use Rattle.calculus.specs.Reading.{Notation, de_bruijn, classic, next, characters_of, read_text}
use Rattle.calculus.specs.Writing.{grouped, as_left, as_right, written, binder_text, text_of_variable, gap_text}
use Rattle.calculus.specs.Writing.{in_characters, characters_written, write_text}
use borrow.Author.Tests.{le-leb}
use Rattle.calculus.proofs.Judged.{in_bounds-given}
use Rattle.calculus.proofs.Moves.{next_shorter}
use Rattle.calculus.proofs.Shown.{shown, characters_shown, domain_shown, text-fits}
use Rattle.finality.specs.Readable.{Readable}
use Rattle.finality.proofs.Tokens.{parsed_tokens}
use Rattle.finality.proofs.Walked.{binder-name, variable-word, in_words, Fits, walked}
use Rattle.finality.proofs.Walked.{readable-index, readable-body, readable-parts}
use Rattle.finality.proofs.Lexed.{Stopped, next-binder, next-variable, next-left, next-right}

-- the words of characters, one after another
data Lexes (n : Notation) : List ℕ → List Word → Type 0 where
  no_more : {cs : List ℕ} → next n cs ≡ ended → Lexes n cs []
  one_more : {cs after : List ℕ} {w : Word} {ws : List Word} → next n cs ≡ word w after → Lexes n after ws
      → Lexes n cs (w ∷ ws)

lexed_from : {n : Notation} {cs : List ℕ} {ws : List Word} → Lexes n cs ws → (refusal : List ℕ → Refusal) (k : ℕ)
    → length cs ≤ k → words_from (next n) refusal k cs ≡ given ws
unfolding words_from
lexed_from (no_more e) refusal zero h = refl
lexed_from (no_more e) refusal (suc k) h = rw e
lexed_from {n} (one_more {cs} e l) refusal zero h = absurd (omega (arith, next_shorter n cs e))
lexed_from {n} (one_more {cs} e l) refusal (suc k) h =
    rw (e, lexed_from l refusal k (omega (arith, next_shorter n cs e)))

-- a gap is white space
after-gap : (n : Notation) {cs : List ℕ} {ws : List Word} → Lexes n cs ws → Lexes n (gap_text n ++ cs) ws
unfolding next
after-gap de_bruijn l = l
after-gap classic (no_more e) = no_more e
after-gap classic {cs} (one_more e l) = one_more {cs = 32 ∷ cs} e l

at_end : (n : Notation) → Lexes n [] []
unfolding next
at_end de_bruijn = no_more refl
at_end classic = no_more refl

-- a name stops at a gap, at a `)` and at the end
gap-stops : (n : Notation) (cs : List ℕ) → Stopped n (gap_text n ++ cs)
gap-stops de_bruijn cs = tt
gap-stops classic cs = refl

right-stops : (n : Notation) (cs : List ℕ) → Stopped n (41 ∷ cs)
right-stops de_bruijn cs = tt
right-stops classic cs = refl

end_stops : (n : Notation) → Stopped n []
end_stops de_bruijn = tt
end_stops classic = tt

-- characters are lexed to words wherever a name may stop after them
record Spells (n : Notation) (xs : List ℕ) (us : List Word) : Type 0 where
  before : (after : List ℕ) (ws : List Word) → Stopped n after → Lexes n after ws → Lexes n (xs ++ after) (us ++ ws)

module _ (n : Notation) (m : ℕ) where
  of_var : (d i : ℕ) → Fits n d i → Spells n (text_of_variable n m d i) (variable-word n d i ∷ [])
  of_var d i f = record { before = λ after ws s l. one_more (next-variable n m d i f after s) l }

  of_lam : (d : ℕ) {xs : List ℕ} {us : List Word} → Spells n xs us
      → Spells n (binder_text n d ++ xs) (binder (binder-name n d) ∷ us)
  of_lam d {xs} p =
      record {
        before = λ after ws s l. rw append_assoc (one_more (next-binder n d (xs ++ after)) (p.before after ws s l));
      }

  of_app : {xs ys : List ℕ} {us vs : List Word} → Spells n xs us → Spells n ys vs
      → Spells n (xs ++ (gap_text n ++ ys)) (us ++ vs)
  of_app {ys} {vs} p q =
      record {
        before = λ after ws s l.
            let right : Lexes n (ys ++ after) (vs ++ ws) = q.before after ws s l in
            simp append_assoc (p.before _ (vs ++ ws) (gap-stops n (ys ++ after)) (after-gap n right));
      }

  of_group : {xs : List ℕ} {us : List Word} → Spells n xs us
      → Spells n (grouped (in_characters n m) xs) (grouped (in_words n) us)
  of_group {xs} p =
      record {
        before = λ after ws s l.
            let close : Lexes n (41 ∷ after) (closing ∷ ws) = one_more (next-right n after) l in
            simp append_assoc
            (one_more (next-left n (xs ++ (41 ∷ after)))
            (p.before (41 ∷ after) (closing ∷ ws) (right-stops n after) close));
      }

  of_left : (t : Term) {xs : List ℕ} {us : List Word} → Spells n xs us
      → Spells n (as_left (in_characters n m) t xs) (as_left (in_words n) t us)
  of_left (var i) p = p
  of_left (lam b) p = of_group p
  of_left (app l r) p = p

  of_right : (t : Term) {xs : List ℕ} {us : List Word} → Spells n xs us
      → Spells n (as_right (in_characters n m) t xs) (as_right (in_words n) t us)
  of_right (var i) p = p
  of_right (lam b) p = of_group p
  of_right (app l r) p = of_group p

  spelled : (d : ℕ) (t : Term) → Readable n d t → Spells n (written (in_characters n m) d t) (written (in_words n) d t)
  unfolding written
  spelled d (var i) f = of_var d i (readable-index n d i f)
  spelled d (lam b) f = of_lam d (spelled (suc d) b (readable-body n d b f))
  spelled d (app l r) f =
      let (fl, fr) = readable-parts n d l r f in
      of_app (of_left l (spelled d l fl)) (of_right r (spelled d r fr))

-- EACH STAGE OF READING, on what is written
characters-read : (n : Notation) (t : Term) → nodes t ≤ most_nodes
    → characters_of (write_text n t) ≡ given (characters_written n t)
unfolding characters_of write_text
characters-read n t few =
    let fits = le-leb (length (write_text n t)) most_text (text-fits n t few) in
    rw (fits, characters_shown (shown n t), domain_shown (shown n t) 0)

words-read : (n : Notation) (t : Term) → Readable n 0 t
    → words (next n) (characters_written n t) ≡ given (written (in_words n) 0 t)
unfolding words characters_written
words-read n t f =
    let all = (spelled n (max_depth t) 0 t f).before [] [] (end_stops n) (at_end n) in
    lexed_from (simp append-nil at all) _ (length (characters_written n t)) (omega arith)

-- WHAT IS WRITTEN IS READ BACK
pub round_trip : (n : Notation) (cap : ℕ) (t : Term) → Readable n 0 t
    → height t ≤ most_height → nodes t ≤ cap → cap ≤ most_nodes → read_text n cap (write_text n t) ≡ given t
unfolding read_text
round_trip n cap t f high few allowed =
    rw (
      characters-read n t (omega arith),
      words-read n t f,
      walked n most_open t f (omega arith) (omega arith),
      parsed_tokens t,
      in_bounds-given t high few,
    )
