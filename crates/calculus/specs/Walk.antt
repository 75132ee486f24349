-- The walk over the words of a text: names resolved (6), nesting bounded (7), and the text's end at a stray `)`.
use Rattle.std.specs.Prelude.{ℕ, suc, cond, List, [], ◌∷◌, leb, length}
use Rattle.std.proofs.Math.Option.{Option, none, some}
use Rattle.calculus.specs.Refusal.{Answer, given, refused, ◌then◌, undefined_free_variable, too_high}
use Rattle.calculus.specs.Characters.{same_text}
use Rattle.calculus.specs.Words.{Name, Word, binder, opening, closing, number, name}

-- a word whose name is resolved
pub data Token : Type 0 where
  lambda left right : Token
  index : ℕ → Token

-- what is open at a word, innermost first: parentheses, and binders by name
pub data Open : Type 0 where
  group : Open
  bound : Name → Open

-- the index that a name has: open binders from the innermost, which is i, out to the first of that name
unfoldable pub resolved : Name → (i : ℕ) → List Open → Option ℕ
unfolding same_text
resolved x i [] = none
resolved x i (group ∷ os) = resolved x i os
resolved x i (bound y ∷ os) = cond (same_text x y) (some i) (resolved x (suc i) os)

-- what stays open after a `)`, which closes a group and the binders in it; none where it closes nothing
unfoldable pub closed : List Open → Option (List Open)
closed [] = none
closed (group ∷ os) = some os
closed (bound x ∷ os) = closed os

abbrev pub and_then : Token → Answer (List Token) → Answer (List Token)
and_then k ts = ts then (λ ts. given (k ∷ ts))

-- a name: refusal 6
abbrev pub on_name : Option ℕ → Answer (List Token) → Answer (List Token)
on_name none ts = refused undefined_free_variable
on_name (some i) ts = and_then (index i) ts

-- a `)`: the text ends where it closes nothing
abbrev pub on_closing : Option (List Open) → (List Open → Answer (List Token)) → Answer (List Token)
on_closing none go = given []
on_closing (some os) go = and_then right (go os)

-- one more is open: refusal 7
abbrev pub opened : (most : ℕ) → List Open → Token → (List Open → Answer (List Token)) → Answer (List Token)
opened most os k go = cond (leb (length os) most) (and_then k (go os)) (refused too_high)

-- the tokens of the words up to the end of the text, with at most so many open
unfoldable pub walk : (most : ℕ) → List Open → List Word → Answer (List Token)
unfolding resolved closed
walk most os [] = given []
walk most os (binder x ∷ ws) = opened most (bound x ∷ os) lambda (λ os. walk most os ws)
walk most os (opening ∷ ws) = opened most (group ∷ os) left (λ os. walk most os ws)
walk most os (closing ∷ ws) = on_closing (closed os) (λ os. walk most os ws)
walk most os (number i ∷ ws) = and_then (index i) (walk most os ws)
walk most os (name x ∷ ws) = on_name (resolved x 1 os) (walk most os ws)
