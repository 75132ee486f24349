-- Answers told in numbers: by the case that an enum is, and beside the buffers.
use Prim.Native.Nat.{ℕ}
use mathlib.Core.Path.{◌≡◌, refl, sym, ap, ◌∙◌}
use mathlib.Core.Bool.{Bool, true, false, cond}
use mathlib.Core.List.{List}
use mir.Val.{bool_byte}
use Rattle.calculus.specs.Outcomes.{Outcome}
use Rattle.copperjangle.specs.Answers.{told_by}
use Rattle.copperjangle.specs.declared.Answer.{Answer}

-- a bool as the code casts it
pub truth_cast : (b : Bool) → bool_byte b ≡ cond b 1 0
truth_cast true = refl
truth_cast false = refl

-- what an answer is told as, once its case is known
pub case_told : {A : Type 0} (f : A → Answer) {a case : A} {r : Answer} → a ≡ case → r ≡ f case → r ≡ f a
case_told f e says = says ∙ ap f (sym e)

-- the buffers stay beside an answer that is told
pub outcome-told : {A : Type 0} (f : A → Answer) {o : Outcome A} {a : A} {r : Answer} {out room : List ℕ}
    → r ≡ f a → (a, out, room) ≡ o → (r, out, room) ≡ told_by f o
outcome-told f says e = rw says (ap (told_by f) e)

pub output-told : {A : Type 0} (f : A → Answer) {o : A × List ℕ} {a : A} {r : Answer} {out : List ℕ}
    → r ≡ f a → (a, out) ≡ o → ◌≡◌ {A = Answer × List ℕ} (r, out) (f o.0, o.1)
output-told f says e = rw says (ap (λ p. (f p.0, p.1)) e)
