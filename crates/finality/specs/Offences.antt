-- What refusals 7 and 8 of a text speak of: the most that is open at once, and an expression that is missing.
use Rattle.std.specs.Prelude.{ℕ, zero, suc, max, Bool, true, false, ◌||◌, List, [], ◌∷◌, length}
use Rattle.std.proofs.Math.Option.{Option, none, some}
use Rattle.calculus.specs.Words.{Word, binder, opening, closing, number, name}
use Rattle.calculus.specs.Walk.{Token, lambda, left, right, index, Open, group, bound, closed}

abbrev pub if_closed : Option (List Open) → (List Open → ℕ) → ℕ
if_closed none go = 0
if_closed (some os) go = go os

-- the most parentheses and binders that are open at once, from a word on, up to the end of the text
unfoldable pub nesting : List Open → List Word → ℕ
unfolding closed
nesting os [] = length os
nesting os (binder x ∷ ws) = nesting (bound x ∷ os) ws
nesting os (opening ∷ ws) = nesting (group ∷ os) ws
nesting os (closing ∷ ws) = max (length os) (if_closed (closed os) (λ os. nesting os ws))
nesting os (number i ∷ ws) = nesting os ws
nesting os (name x ∷ ws) = nesting os ws

-- whether a `)` or the end stands directly after the start, a binder or a `(`: at a token, with so many `(` open, and
-- whether it stands there itself; a `)` that closes nothing ends the text
unfoldable pub starved : (groups : ℕ) → (beginning : Bool) → List Token → Bool
starved g b [] = b
starved g b (index i ∷ ts) = starved g false ts
starved g b (lambda ∷ ts) = starved g true ts
starved g b (left ∷ ts) = starved (suc g) true ts
starved zero b (right ∷ ts) = b
starved (suc g) b (right ∷ ts) = b || starved g false ts
