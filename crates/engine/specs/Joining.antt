-- A node whose parts may have changed: what is known of them, and what making it again gives.
use Rattle.std.specs.Prelude.{ℕ, ◌+◌, ◌*◌, ◌/◌, ◌%◌, ◌≤◌, ◌<◌, ◌≡◌, true, List, length}
use Rattle.std.proofs.Math.Option.{none}
use Rattle.calculus.specs.Term.{Term, lam, app, nodes, height}
use Rattle.calculus.specs.Bounds.{most_nodes, most_height}
use Rattle.calculus.specs.Orders.{Order, step}
use Rattle.calculus.specs.Traits.{spine, eager, hybrid, NotLam}
use Rattle.calculus.specs.Ends.{Accepted}
use Rattle.nodes.specs.Store.{Holds, Same, link}
use Rattle.engine.specs.Judging.{judge_at}
use Rattle.engine.specs.Running.{Start, most, Kept}
use Rattle.engine.specs.States.{State}
use Rattle.engine.specs.declared.Stop.TheVariants.{Rested}

-- AN ABSTRACTION, whose body is another term now, at the state's node
pub record Body (steps depth : ℕ) (a : Start) (b : Term) (s : State) (room : List ℕ) : Type 0 where
  pub first : Term
  pub is : a.term ≡ lam first
  pub was : Holds room a.term a.node
  pub begun : a.node < a.used
  pub holds : Holds room b s.node
  pub below : s.node < s.used
  pub grows : a.used ≤ s.used
  pub inside : 2 * s.used ≤ length room
  pub small : length room ≤ 8 * most_nodes
  pub low : height (lam b) ≤ most_height
  pub few : nodes (lam b) ≤ most_nodes
  pub kept : Kept steps (depth + 1) (link room a.node) a.used s (length room)
  pub same : Same a.room room a.used

-- without a step the parts are those of the node; after one there is room for the node and those above
pub data Together (steps depth : ℕ) (a : Start) (left right used : ℕ) (room : List ℕ) : Type 0 where
  together : steps ≡ 0 → left ≡ link room a.node % 4294967296 → right ≡ link room a.node / 4294967296
      → used ≡ a.used
      → Together steps depth a left right used room
  apart : 0 < steps → 2 * (used + depth + 1) ≤ length room → Together steps depth a left right used room

-- AN APPLICATION, whose parts are other terms now, at these nodes
pub record Parts (steps depth : ℕ) (a : Start) (l r : Term) (left right used : ℕ) (room : List ℕ) : Type 0 where
  pub function : Term
  pub argument : Term
  pub is : a.term ≡ app function argument
  pub was : Holds room a.term a.node
  pub begun : a.node < a.used
  pub holds_left : Holds room l left
  pub holds_right : Holds room r right
  pub below_left : left < used
  pub below_right : right < used
  pub grows : a.used ≤ used
  pub inside : 2 * used ≤ length room
  pub small : length room ≤ 8 * most_nodes
  pub low : height (app l r) ≤ most_height
  pub few : nodes (app l r) ≤ most_nodes
  pub kept : Together steps depth a left right used room
  pub same : Same a.room room a.used

-- the node is the term again; the rest of the state is as it was
pub record Joined (steps depth : ℕ) (a : Start) (t : Term) (s r : State) (after : List ℕ) : Type 0 where
  pub holds : Holds after t r.node
  pub below : r.node < r.used
  pub grows : a.used ≤ r.used
  pub inside : 2 * r.used ≤ length after
  pub kept : Kept steps depth a.node a.used r (length after)
  pub same : Same a.room after a.used
  pub budget_same : r.budget ≡ s.budget
  pub spare_same : r.spare ≡ s.spare
  pub stop_same : r.stop ≡ s.stop

-- STEPS SO FAR, of an application that is not made again yet
pub record Parted (o : Order) (depth : ℕ) (a : Start) (l r : Term) (left right : ℕ) (s : State) (room : List ℕ)
    : Type 0 where
  pub steps : ℕ
  pub way : Accepted (judge_at depth (most a)) o steps a.term (app l r)
  pub count : s.budget + steps ≡ a.budget
  pub size : nodes (app l r) + s.spare ≡ most a
  pub few : most a ≤ most_nodes
  pub deep : depth + height (app l r) ≤ most_height
  pub parts : Parts steps depth a l r left right s.used room

-- the spine's order rests in the function part, and an eager order in the argument
pub record Here (o : Order) (depth : ℕ) (a : Start) (l r : Term) (whole left right : ℕ) (s : State) (room : List ℕ)
    : Type 0 where
  pub parted : Parted o depth a l r left right s room
  pub at_whole : whole ≡ a.node
  pub at_rest : s.stop ≡ Rested
  pub stuck : step (spine o) l ≡ none
  pub unless : eager o ≡ true → step o r ≡ none

-- the same, where there is no contraction here
pub record Resting (o : Order) (depth : ℕ) (a : Start) (l r : Term) (whole left right : ℕ) (s : State)
    (room : List ℕ) : Type 0 where
  pub parted : Parted o depth a l r left right s room
  pub at_whole : whole ≡ a.node
  pub stuck : step (spine o) l ≡ none
  pub unless : eager o ≡ true → step o r ≡ none
  pub not_lam : NotLam l
  pub is_hybrid : hybrid o ≡ true
