-- The tokens that a term is written with are, by the grammar, a sequence for that term.
use Prim.Native.Nat.{ℕ, suc}
use mathlib.Core.Path.{◌≡◌}
use mathlib.Core.List.{List, [], ◌∷◌, ◌++◌, append_assoc, append-nil}
use mathlib.Core.Option.{none, some}
use Rattle.calculus.specs.Term.{Term, var, lam, app}
use Rattle.calculus.specs.Refusal.{given}
use Rattle.calculus.specs.Walk.{Token, lambda, left, right, index}
use Rattle.calculus.specs.Grammar.{parsed}
use Rattle.calculus.specs.Writing.{Layout, grouped, as_left, as_right, written}
use Rattle.calculus.proofs.Sequences.{Ends, at_the_end, at_a_right, sequence-given}
use Rattle.calculus.proofs.Sequences.{Sequence, ends, item, Item, variable, abstraction, closed}

abbrev pub in_tokens : Layout Token
in_tokens = record { binder = λ d. lambda ∷ []; variable = λ d i. index i ∷ []; gap = []; left = left; right = right }

abbrev pub tokens : ℕ → Term → List Token
tokens d t = written in_tokens d t

-- a term's tokens: where its sequence ends after them; as a left part, which begins a sequence
abbrev Whole : ℕ → Term → Type 0
Whole d t = (rest : List Token) → Ends right rest → Sequence (tokens d t ++ rest) none t rest

abbrev Head : ℕ → Term → Type 0
Head d t = (ts rest : List Token) (u : Term) → Sequence ts (some t) u rest
    → Sequence (as_left in_tokens t (tokens d t) ++ ts) none u rest

of_group : (d : ℕ) (t : Term) → Whole d t → (ts : List Token) → Item (grouped in_tokens (tokens d t) ++ ts) t ts
of_group d t whole ts = rw append_assoc (closed (whole (right ∷ ts) at_a_right))

-- as a right part they are an item
of_right : (d : ℕ) (t : Term) → Whole d t → (ts : List Token) → Item (as_right in_tokens t (tokens d t) ++ ts) t ts
unfolding written
of_right d (var i) whole ts = variable
of_right d (lam b) whole ts = of_group d (lam b) whole ts
of_right d (app l r) whole ts = of_group d (app l r) whole ts

of_lam : (d : ℕ) (b : Term) → Whole (suc d) b → Whole d (lam b)
unfolding written
of_lam d b whole rest e = item (abstraction (whole rest e)) (ends e)

of_app : (d : ℕ) (l r : Term) → Head d l → Whole d r → Head d (app l r)
unfolding written
of_app d l r head whole ts rest u s =
    rw append_assoc (head (as_right in_tokens r (tokens d r) ++ ts) rest u (item (of_right d r whole ts) s))

both : (d : ℕ) (t : Term) → Whole d t × Head d t
unfolding written
both d (var i) = (λ rest e. item variable (ends e), λ ts rest u s. item variable s)
both d (lam b) =
    let whole : Whole d (lam b) = of_lam d b (both (suc d) b).0 in
    (whole, λ ts rest u s. item (of_group d (lam b) whole ts) s)
both d (app l r) =
    let head : Head d (app l r) = of_app d l r (both d l).1 (both d r).0 in
    (λ rest e. head rest rest (app l r) (ends e), head)

pub tokens_sequence : (t : Term) → Sequence (tokens 0 t) none t []
tokens_sequence t = rw append-nil at ((both 0 t).0 [] at_the_end)

pub parsed_tokens : (t : Term) → parsed (tokens 0 t) none [] ≡ given t
parsed_tokens t = sequence-given (tokens_sequence t)
