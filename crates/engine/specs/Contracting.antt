-- What contracting in place asks and gives.
use Rattle.std.specs.Prelude.{ℕ, ◌+◌, ◌*◌, ◌≤◌, ◌<◌, ◌≡◌, List, length}
use Rattle.std.proofs.Math.Option.{none, some}
use Rattle.calculus.specs.Term.{Term, lam, app, nodes, height, greatest_index}
use Rattle.calculus.specs.Bounds.{most_nodes, most_height, greatest_number}
use Rattle.calculus.specs.Refusal.{Refusal}
use Rattle.calculus.specs.Substitution.{contract}
use Rattle.nodes.specs.Store.{Holds, Same}
use Rattle.engine.specs.Judging.{judge_at, Tells}
use Rattle.engine.specs.States.{State}
use Rattle.engine.specs.declared.Stop.{Stop}
use Rattle.engine.specs.declared.Stop.TheVariants.{Stepped, Spent, Full}

-- an abstraction and its argument, so deep in a whole that is within the bounds
pub record Redex (b a : Term) (depth : ℕ) (s : State) (function argument : ℕ) (room : List ℕ) : Type 0 where
  pub holds : Holds room (lam b) function
  pub holds_put : Holds room a argument
  pub below : function < s.used
  pub below_put : argument < s.used
  pub inside : 2 * s.used ≤ length room
  pub small : length room ≤ 8 * most_nodes
  pub deep : depth + height (app (lam b) a) ≤ most_height
  pub few : nodes (app (lam b) a) + s.spare ≤ most_nodes

-- the most nodes that the redex may become
abbrev pub most_of : (b a : Term) → State → ℕ
most_of b a s = nodes (app (lam b) a) + s.spare

-- its body and its argument, where a step is left and the redex may become so many nodes
pub record Contractible (b a : Term) (depth most : ℕ) (s : State) (body argument : ℕ) (room : List ℕ) : Type 0 where
  pub holds : Holds room b body
  pub holds_put : Holds room a argument
  pub below : body < s.used
  pub below_put : argument < s.used
  pub inside : 2 * s.used ≤ length room
  pub small : length room ≤ 8 * most_nodes
  pub deep : depth + height (app (lam b) a) ≤ most_height
  pub few : most ≤ most_nodes
  pub most_is : most ≡ most_of b a s
  pub left : 0 < s.budget

-- and there is room for the contraction and the nodes above, and no index of it is too great
pub record Assured (b a : Term) (depth most : ℕ) (s : State) (body argument : ℕ) (room : List ℕ) : Type 0 where
  pub can : Contractible b a depth most s body argument room
  pub space : 2 * (s.used + nodes (contract b a) + depth) ≤ length room
  pub index_small : greatest_index (contract b a) ≤ greatest_number

-- the contraction is accepted and made
pub record Makes (b a : Term) (depth : ℕ) (s : State) (before : List ℕ) (r : State) (after : List ℕ) : Type 0 where
  pub stops : r.stop ≡ Stepped
  pub accepted : judge_at depth (most_of b a s) (contract b a) ≡ none
  pub holds : Holds after (contract b a) r.node
  pub below : r.node < r.used
  pub grows : s.used ≤ r.used
  pub inside : 2 * (r.used + depth) ≤ length after
  pub deep : depth + height (contract b a) ≤ most_height
  pub size : nodes (contract b a) + r.spare ≡ most_of b a s
  pub count : r.budget + 1 ≡ s.budget
  pub same : Same before after s.used

-- why it is not made: the budget is spent, the next term is refused, or the room is full
pub data Why (b a : Term) (depth : ℕ) (s : State) (room : List ℕ) : Stop → Type 0 where
  spent : s.budget ≡ 0 → Why b a depth s room Spent
  full : 0 < s.budget → length room < 2 * (s.used + depth + most_of b a s) → Why b a depth s room Full
  refuses : {e : Refusal} {n : Stop} → 0 < s.budget → judge_at depth (most_of b a s) (contract b a) ≡ some e → Tells e n
      → Why b a depth s room n

-- the contraction is made, or the nodes before are as they were
pub data Contracted (b a : Term) (depth : ℕ) (s : State) (before : List ℕ) : State → List ℕ → Type 0 where
  made : {r : State} {after : List ℕ} → Makes b a depth s before r after → Contracted b a depth s before r after
  not_made : {r : State} {after : List ℕ} {stop : Stop} → Why b a depth s before stop → r.used ≡ s.used
      → r.budget ≡ s.budget → r.spare ≡ s.spare → r.stop ≡ stop → Same before after s.used
      → Contracted b a depth s before r after
