-- The grammar: a sequence holds groups and a group holds a sequence.
use Rattle.std.specs.Prelude.{List, [], ◌∷◌}
use Rattle.std.proofs.Math.Option.{Option, none, some}
use Rattle.calculus.specs.Refusal.{Answer, given, refused, empty_expression}
use Rattle.calculus.specs.Term.{Term, var, lam, app}
use Rattle.calculus.specs.Walk.{Token, lambda, left, right, index}

-- what a sequence has read so far: nothing, or its items joined from the left
abbrev pub Part : Type 0
Part = Option Term

abbrev pub with_item : Part → Term → Term
with_item none t = t
with_item (some f) t = app f t

-- a sequence that waits, by its part so far: for a group to close, or for the body of an abstraction to end
pub data Waits : Type 0 where
  for_group for_body : Part → Waits

-- the part at the end of the text: bodies end, and so do groups whose `)` is missing
unfoldable pub at_end : Part → List Waits → Answer Term
at_end none ps = refused empty_expression
at_end (some t) [] = given t
at_end (some t) (for_group p ∷ ps) = at_end (some (with_item p t)) ps
at_end (some t) (for_body p ∷ ps) = at_end (some (with_item p (lam t))) ps

-- the part at a `)`: bodies end up to the group that it closes, and reading goes on there; the walk, which ends the
-- text at a stray `)`, leaves none that closes nothing
unfoldable pub at_right : (Part → List Waits → Answer Term) → Part → List Waits → Answer Term
at_right go none ps = refused empty_expression
at_right go (some t) [] = given t
at_right go (some t) (for_group p ∷ ps) = go (some (with_item p t)) ps
at_right go (some t) (for_body p ∷ ps) = at_right go (some (with_item p (lam t))) ps

-- the term of the tokens that remain, after a part, inside sequences that wait
unfoldable pub parsed : List Token → Part → List Waits → Answer Term
unfolding at_end at_right
parsed [] p ps = at_end p ps
parsed (index i ∷ ts) p ps = parsed ts (some (with_item p (var i))) ps
parsed (lambda ∷ ts) p ps = parsed ts none (for_body p ∷ ps)
parsed (left ∷ ts) p ps = parsed ts none (for_group p ∷ ps)
parsed (right ∷ ts) p ps = at_right (parsed ts) p ps
