-- What measuring a contraction before it is made asks and gives.
use Prim.Native.Nat.{ℕ, suc, ◌+◌, ◌*◌, ◌≤◌, max, compare}
use Rattle.std.specs.Prelude.{◌≡◌, Bool, not, List, leb, length}
use Rattle.calculus.specs.Term.{Term, var, lam, app, nodes, height, greatest_index}
use Rattle.calculus.specs.Bounds.{most_nodes, greatest_number}
use Rattle.calculus.specs.Substitution.{raise, put, contract, occurs, compared}
use Rattle.nodes.specs.Store.{Holds}
use Rattle.substitution.specs.declared.weighing.Measured.{Measured}
use Rattle.substitution.specs.declared.weighing.Weight.{Weight}

-- the greatest depth at which the index that equals its depth occurs, in a term under d abstractions; 0 if it does not
unfoldable pub deepest : ℕ → Term → ℕ
deepest d (var i) = compared (compare i (suc d)) 0 (suc d) 0
deepest d (lam b) = deepest (suc d) b
deepest d (app l r) = max (deepest d l) (deepest d r)

-- an index passes the greatest number
abbrev pub too_great : Term → Bool
too_great t = not (leb (greatest_index t) greatest_number)

-- a node that is some term, and a height that some term has
pub record Measurable (room : List ℕ) (node depth tall : ℕ) : Type 0 where
  pub term : Term
  pub holds : Holds room term node
  pub inside : 2 * node + 2 ≤ length room
  pub few : nodes term ≤ 4 * most_nodes
  pub deep : depth + height term ≤ 1022
  pub put_term : Term
  pub tall_is : height put_term ≡ tall
  pub low : tall ≤ 1022

-- whatever term the node is, and whatever is put in that has this height
pub record Measures (room : List ℕ) (node depth tall : ℕ) (r : Measured) : Type 0 where
  pub copies : (t : Term) → Holds room t node → r.copies ≡ occurs depth t
  pub deepest_at : (t : Term) → Holds room t node → r.deepest ≡ deepest depth t
  pub height_is : (t a : Term) → Holds room t node → height a ≡ tall → r.height ≡ height (put depth a t)

-- a node that is some term
pub record Overflowable (room : List ℕ) (node amount depth : ℕ) : Type 0 where
  pub term : Term
  pub holds : Holds room term node
  pub inside : 2 * node + 2 ≤ length room
  pub deep : depth + height term ≤ 1022
  pub little : amount ≤ 1022

-- whether raising whatever term it is takes an index past the greatest number
pub record Overflows (room : List ℕ) (node amount depth : ℕ) (r : Bool) : Type 0 where
  pub tells : (t : Term) → Holds room t node → r ≡ too_great (raise amount depth t)

-- an argument, and the greatest depth at which it is put into some term
pub record Occurring (room : List ℕ) (argument place : ℕ) : Type 0 where
  pub term : Term
  pub put_term : Term
  pub holds_put : Holds room put_term argument
  pub inside : 2 * argument + 2 ≤ length room
  pub deepest_at : place ≡ deepest 0 term
  pub low : height term ≤ 1022
  pub low_put : height put_term ≤ 1022

-- of whatever term with such a place and no index that is too great itself
pub record Bursts (room : List ℕ) (argument place : ℕ) (r : Bool) : Type 0 where
  pub tells : (b a : Term) → Holds room a argument → place ≡ deepest 0 b → greatest_index b ≤ greatest_number
      → r ≡ too_great (contract b a)

-- two nodes that are terms within the bounds
pub record Weighable (room : List ℕ) (body argument : ℕ) : Type 0 where
  pub term : Term
  pub put_term : Term
  pub holds : Holds room term body
  pub holds_put : Holds room put_term argument
  pub inside : 2 * body + 2 ≤ length room
  pub inside_put : 2 * argument + 2 ≤ length room
  pub few : nodes term ≤ most_nodes
  pub few_put : nodes put_term ≤ most_nodes
  pub low : height term ≤ 1022
  pub low_put : height put_term ≤ 1022

-- whatever terms the two are: 12, 7 and 9 of the contraction can be judged without making it
pub record Weighs (room : List ℕ) (body argument : ℕ) (r : Weight) : Type 0 where
  pub copies_are : (b : Term) → Holds room b body → r.copies ≡ occurs 0 b
  pub bursts : (b a : Term) → Holds room b body → Holds room a argument → r.bursts ≡ too_great (contract b a)
  pub height_is : (b a : Term) → Holds room b body → Holds room a argument → r.height ≡ height (contract b a)
  pub nodes_are : (b a : Term) → Holds room b body → Holds room a argument → r.nodes ≡ nodes (contract b a)
