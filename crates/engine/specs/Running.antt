-- What steps in a part of a term ask and give.
use Rattle.std.specs.Prelude.{ℕ, ◌+◌, ◌*◌, ◌≤◌, ◌<◌, ◌≡◌, true, List, length}
use Rattle.std.proofs.Math.Option.{none, some}
use Rattle.calculus.specs.Term.{Term, nodes, height}
use Rattle.calculus.specs.Bounds.{most_nodes, most_height}
use Rattle.calculus.specs.Refusal.{Refusal}
use Rattle.calculus.specs.Orders.{Order, step}
use Rattle.calculus.specs.Traits.{spine, hybrid}
use Rattle.calculus.specs.Ends.{Accepted}
use Rattle.nodes.specs.Store.{Says, Holds, Same}
use Rattle.engine.specs.Judging.{judge_at, Tells}
use Rattle.engine.specs.States.{State}
use Rattle.engine.specs.declared.Stop.{Stop}
use Rattle.engine.specs.declared.Stop.TheVariants as stopped
use Rattle.engine.specs.declared.Stop.TheVariants.{Stepped, Spent, Full}

-- how a part stood at first: its term and its node, and what else the state said; and the room
pub record Start : Type 0 where
  pub term : Term
  pub node : ℕ
  pub used : ℕ
  pub budget : ℕ
  pub spare : ℕ
  pub room : List ℕ

abbrev pub started : Term → State → List ℕ → Start
started t s room = record {
  term = t;
  node = s.node;
  used = s.used;
  budget = s.budget;
  spare = s.spare;
  room = room;
}

-- the most nodes that the part may come to have
abbrev pub most : Start → ℕ
most a = nodes a.term + a.spare

-- why a run stops at a term
pub data Stops (o : Order) (depth most budget : ℕ) (t : Term) : Stop → Type 0 where
  -- no step is left
  rested : step o t ≡ none → Stops o depth most budget t stopped.Rested
  -- a contraction was made here
  stepped : Stops o depth most budget t Stepped
  -- a step is left, and the budget is spent
  spent : {u : Term} → budget ≡ 0 → step o t ≡ some u → Stops o depth most budget t Spent
  -- the room is full
  full : Stops o depth most budget t Full
  -- the next term is refused
  refuses : {u : Term} {e : Refusal} {n : Stop} → 0 < budget → step o t ≡ some u → judge_at depth most u ≡ some e
      → Tells e n
      → Stops o depth most budget t n

-- without a step nothing has moved; after one there is room for the nodes above
pub data Kept (steps depth node used : ℕ) (s : State) (long : ℕ) : Type 0 where
  unmoved : steps ≡ 0 → s.node ≡ node → s.used ≡ used → Kept steps depth node used s long
  moved : 0 < steps → 2 * (s.used + depth) ≤ long → Kept steps depth node used s long

-- the node is the term, so deep in a whole that is within the bounds
pub record Ready (t : Term) (room : List ℕ) (depth : ℕ) (s : State) : Type 0 where
  pub holds : Holds room t s.node
  pub below : s.node < s.used
  pub inside : 2 * s.used ≤ length room
  pub small : length room ≤ 8 * most_nodes
  pub deep : depth + height t ≤ most_height
  pub few : nodes t + s.spare ≤ most_nodes

-- and its order's spine rests there
pub record Rested (o : Order) (t : Term) (room : List ℕ) (depth : ℕ) (s : State) : Type 0 where
  pub ready : Ready t room depth s
  pub stuck : step (spine o) t ≡ none
  pub is_hybrid : hybrid o ≡ true

-- whatever term has this first number, the order has no step in it
abbrev pub Rests : Order → ℕ → Type 0
Rests o w = (t : Term) → Says w t → step o t ≡ none

-- STEPS OF THE ORDER, each to a term that is accepted, to the term that the node is now, and why they stop there
pub record Ran (o : Order) (depth : ℕ) (a : Start) (s : State) (after : List ℕ) : Type 0 where
  pub term : Term
  pub steps : ℕ
  pub way : Accepted (judge_at depth (most a)) o steps a.term term
  pub stops : Stops o depth (most a) s.budget term s.stop
  pub count : s.budget + steps ≡ a.budget
  pub size : nodes term + s.spare ≡ most a
  pub deep : depth + height term ≤ most_height
  pub holds : Holds after term s.node
  pub below : s.node < s.used
  pub grows : a.used ≤ s.used
  pub inside : 2 * s.used ≤ length after
  pub kept : Kept steps depth a.node a.used s (length after)
  pub same : Same a.room after a.used
  -- a contraction here is a step
  pub turned : s.stop ≡ Stepped → 0 < steps
  -- the room is full before a step only if it was nearly full
  pub filled : s.stop ≡ Full → steps ≡ 0 → length after < 2 * (a.used + depth + most a)

-- steps in a part that is the term
abbrev pub RunsOn : (o : Order) (t : Term) (before : List ℕ) (depth : ℕ) (from s : State) (after : List ℕ) → Type 0
RunsOn o t before depth from s after = Ready t before depth from → Ran o depth (started t from before) s after

-- rounds, the last of which did not end in a contraction here
pub record Runs (o : Order) (before : List ℕ) (depth : ℕ) (from s : State) (after : List ℕ) : Type 0 where
  pub ran : (t : Term) → RunsOn o t before depth from s after
  pub ended : s.stop ≡ Stepped → ⊥
