-- Runs under a limit, whose every next term is judged.
use Rattle.std.specs.Prelude.{ℕ, zero, suc}
use Rattle.std.proofs.Math.Option.{Option, none, some}
use Rattle.calculus.specs.Term.{Term}
use Rattle.calculus.specs.Refusal.{Refusal}
use Rattle.calculus.specs.Orders.{Order, step}

-- how a run ends, with the steps completed: no step is left; a step is left at the limit; the next term is refused.
-- What is reached is a term or, in an answer, the length of its bytes.
pub data Run (A : Type 0) : Type 0 where
  finished unfinished : (steps : ℕ) → A → Run A
  refused_after : (steps : ℕ) → Refusal → Run A

-- one step came before
abbrev pub counted : {A : Type 0} → Run A → Run A
counted (finished n t) = finished (suc n) t
counted (unfinished n t) = unfinished (suc n) t
counted (refused_after n e) = refused_after (suc n) e

-- at a term: finished if it has no step
abbrev pub by_step : Term → (Term → Run Term) → Option Term → Run Term
by_step t more none = finished 0 t
by_step t more (some u) = more u

-- the next term is refused, or the run goes on
abbrev pub by_judge : Option Refusal → Run Term → Run Term
by_judge none r = counted r
by_judge (some e) r = refused_after 0 e

-- AT MOST SO MANY STEPS: before each step short of the limit the next term is judged
unfoldable pub run : (Term → Option Refusal) → Order → ℕ → Term → Run Term
unfolding step
run judge o zero t = by_step t (λ u. unfinished 0 t) (step o t)
run judge o (suc limit) t = by_step t (λ u. by_judge (judge u) (run judge o limit u)) (step o t)
