-- ONE OUTCOME: any two outcomes that a statement of this crate allows are the same, the lent buffers included.
use mathlib.Core.Path.{◌≡◌, sym, ap, ◌∙◌}
use mathlib.Core.List.{List}
use Prim.Native.Nat.{ℕ}
use Rattle.calculus.specs.Outcomes.{Outcome}
use Rattle.copperjangle.specs.declared.Answer.{Answer}

-- the queries, whose statements are `r ≡ x`
pub one_answer : {x r q : Answer} → r ≡ x → q ≡ x → r ≡ q
one_answer e k = e ∙ sym k

-- print, whose statement is `(r, out) ≡ x`
pub one_print : {x : Answer × List ℕ} {r q : Answer} {after other : List ℕ}
    → (r, after) ≡ x → (q, other) ≡ x → (r ≡ q) × (after ≡ other)
one_print e k = (ap (λ x. x.0) (e ∙ sym k), ap (λ x. x.1) (e ∙ sym k))

-- parse, apply, eta and reduce, whose statements are `(r, out, room) ≡ x`
pub one_outcome : {x : Outcome Answer} {r q : Answer} {after other left remaining : List ℕ}
    → (r, after, left) ≡ x → (q, other, remaining) ≡ x → (r ≡ q) × (after ≡ other) × (left ≡ remaining)
one_outcome e k = (ap (λ x. x.0) (e ∙ sym k), ap (λ x. x.1) (e ∙ sym k), ap (λ x. x.2) (e ∙ sym k))
