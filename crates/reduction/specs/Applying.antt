-- What contracting two nodes asks and gives.
use Rattle.std.specs.Prelude.{ℕ, ◌+◌, ◌≤◌, ◌<◌, List, Result}
use Rattle.calculus.specs.Term.{Term, nodes, height}
use Rattle.calculus.specs.Bounds.{most_height}
use Rattle.calculus.specs.Refusal.{◌then◌}
use Rattle.calculus.specs.Judging.{next_within}
use Rattle.calculus.specs.Substitution.{contract}
use Rattle.calculus.specs.Outcomes.{stored, coded}
use Rattle.nodes.specs.Store.{Holds}
use Rattle.nodes.specs.Lending.{Lent}
use Rattle.nodes.specs.Working.{Works}
use Rattle.term.specs.Answers.{told}
use Rattle.term.specs.declared.Refusal.{Refusal}

-- two nodes that are terms within the bounds, and room for one more
pub record Contractible (cap : ℕ) (store : List ℕ) (used body argument : ℕ) (out : List ℕ) : Type 0 where
  pub lent : Lent cap out store
  pub body_term : Term
  pub put_term : Term
  pub holds : Holds store body_term body
  pub holds_put : Holds store put_term argument
  pub below : body < used
  pub below_put : argument < used
  pub few : used ≤ cap + cap
  pub few_body : nodes body_term ≤ cap
  pub few_put : nodes put_term ≤ cap
  pub low : height body_term ≤ most_height
  pub low_put : height put_term ≤ most_height

-- whatever terms the two are
pub record Contracts (cap : ℕ) (store : List ℕ) (body argument : ℕ) (before : List ℕ) (r : Result ℕ Refusal)
    (store' after : List ℕ) : Type 0 where
  pub contracts : (b a : Term) → Holds store b body → Holds store a argument
      → Works (stored (next_within cap (contract b a) then coded) before) store (told r) after store'
