-- What steps on a whole term ask and give.
use Rattle.std.specs.Prelude.{ℕ, ◌+◌, ◌*◌, ◌-◌, ◌≤◌, ◌<◌, ◌≡◌, List, length, take, Result, Ok, Err}
use Rattle.calculus.specs.Term.{Term, nodes, height}
use Rattle.calculus.specs.Bounds.{most_nodes, most_height}
use Rattle.calculus.specs.Orders.{Order}
use Rattle.calculus.specs.Judging.{judge}
use Rattle.calculus.specs.Runs.{refused_after}
use Rattle.calculus.specs.Ends.{Accepted, Ends}
use Rattle.term.specs.Answers.{refusal_of}
use Rattle.nodes.specs.Answers.{ended}
use Rattle.nodes.specs.Store.{Holds}
use Rattle.nodes.specs.declared.runs.Stopped.{Stopped}
use Rattle.engine.specs.Judging.{judge_at}
use Rattle.engine.specs.Running.{started, Ran, Stops}
use Rattle.engine.specs.States.{State}
use Rattle.engine.specs.declared.Stop.TheVariants.{Stepped, Full}
use Rattle.engine.specs.declared.Reached.{Reached}

-- the node is a whole term within the bounds, among the first nodes, three for each of the cap
pub record Rooted (t : Term) (cap : ℕ) (s : State) (store : List ℕ) : Type 0 where
  pub in_bounds : cap ≤ most_nodes
  pub room : length store ≡ 8 * cap
  pub holds : Holds store t s.node
  pub below : s.node < s.used
  pub few_used : s.used ≤ 3 * cap
  pub low : height t ≤ most_height
  pub size : nodes t + s.spare ≡ cap

-- rounds in the first part of the store
pub record RunsFirst (o : Order) (t : Term) (cap : ℕ) (from : State) (store : List ℕ) (s : State) (after : List ℕ)
    : Type 0 where
  pub ran : Ran o 0 (started t from (take (6 * cap) store)) s (take (6 * cap) after)
  pub ended : s.stop ≡ Stepped → ⊥
  pub as_long : length after ≡ length store

-- the term is the first nodes, and no other node is used
pub record Renewed (t : Term) (cap : ℕ) (from s : State) (after : List ℕ) : Type 0 where
  pub rooted : Rooted t cap s after
  pub used_are : s.used ≡ nodes t
  pub budget_same : s.budget ≡ from.budget
  pub spare_same : s.spare ≡ from.spare

-- steps to the term that the node is now
pub record Onward (o : Order) (t : Term) (cap : ℕ) (from s : State) (store after : List ℕ) : Type 0 where
  pub term : Term
  pub steps : ℕ
  pub way : Accepted (judge_at 0 cap) o steps t term
  pub rooted : Rooted term cap s after
  pub count : s.budget + steps ≡ from.budget
  pub as_long : length after ≡ length store

-- up to one of the ends
pub record Ended (o : Order) (t : Term) (cap : ℕ) (from s : State) (store after : List ℕ) : Type 0 where
  pub onward : Onward o t cap from s store after
  pub stops : Stops o 0 cap s.budget onward.term s.stop
  pub not_stepped : s.stop ≡ Stepped → ⊥
  pub not_full : s.stop ≡ Full → ⊥

-- the last of so many nodes is a term within the bounds that has just these
pub record Steppable (t : Term) (cap : ℕ) (store : List ℕ) (used : ℕ) : Type 0 where
  pub in_bounds : cap ≤ most_nodes
  pub room : length store ≡ 8 * cap
  pub holds : Holds store t (used - 1)
  pub used_are : used ≡ nodes t
  pub few : used ≤ cap
  pub low : height t ≤ most_height

-- a node that is a term within the bounds
pub record Found (u : Term) (cap node : ℕ) (store : List ℕ) : Type 0 where
  pub holds : Holds store u node
  pub inside : 2 * node + 2 ≤ length store
  pub few : nodes u ≤ cap

-- THE END, as the definition of a run's end has it
pub data Reaches (o : Order) (t : Term) (limit cap : ℕ) (store : List ℕ) : Result Reached Stopped → Type 0 where
  comes : {r : Reached} {u : Term} → Ends (judge cap) o limit t (ended r.end r.steps u) → Found u cap r.node store
      → Reaches o t limit cap store (Ok r)
  refuses : {r : Stopped} → Ends (judge cap) o limit t (refused_after r.steps (refusal_of r.why))
      → Reaches o t limit cap store (Err r)

pub record Steps (o : Order) (t : Term) (limit cap : ℕ) (before : List ℕ) (r : Result Reached Stopped) (after : List ℕ)
    : Type 0 where
  pub reaches : Reaches o t limit cap after r
  pub as_long : length after ≡ length before
