-- What shrinking a named term asks and gives.
use Rattle.std.specs.Prelude.{ℕ, ◌+◌, ◌*◌, ◌≤◌, ◌<◌, ◌≡◌, Bool, true, false, ◌&&◌, Option, Some, None, List, length}
use Rattle.calculus.specs.Bounds.{most_nodes}
use Rattle.calculus.specs.Eta.{may_follow}
use Rattle.nodes.specs.Store.{Same}
use Rattle.eta.specs.Named.{Named, binds, joins, weight, lone}
use Rattle.eta.specs.Shrinking.{Came, shrunk, again, beside, ends_in, applied}
use Rattle.nodes.proofs.Stored.{Stored}
use mathlib.Core.Logic.{◌⊎◌}
use Rattle.eta.specs.Store.{Names, node_at, word_of, link_of}
use Rattle.eta.specs.declared.named.Binder.{Binder}
use Rattle.eta.specs.declared.named.Node.{Node}
use Rattle.eta.specs.declared.shrinking.Shrunk.{Shrunk}
use Rattle.eta.specs.declared.shrinking.Work.{Work}

-- a node, the number of the next one, the steps made, and whether the limit left a place
pub record State : Type 0 where
  pub node : ℕ
  pub used : ℕ
  pub steps : ℕ
  pub left : Bool

abbrev pub state : Shrunk → Work → State
state r w = record { node = r.node; used = w.used; steps = w.steps; left = r.left }

-- a node that is some named term, with room for as many nodes again
pub record Shrinkable (room : List ℕ) (node used steps : ℕ) : Type 0 where
  pub term : Named
  pub names : Names room term node
  pub below : node < used
  pub fits : 2 * (used + weight term) ≤ length room
  pub few : used + weight term ≤ 4 * most_nodes
  pub counted : steps + weight term ≤ 4 * most_nodes

-- a node, with the steps and whether a place is left, is what a named term came to
pub record StandsFor (room : List ℕ) (r : State) (c : Came) : Type 0 where
  pub steps : r.steps ≡ c.0
  pub names : Names room c.1 r.node
  pub left : r.left ≡ c.2
  pub below : r.node < r.used

-- A NODE THAT MAY BE A BODY, held against an abstraction's binder
pub record Checkable (room : List ℕ) (body : ℕ) : Type 0 where
  pub term : Named
  pub names : Names room term body
  pub inside : 2 * body + 2 ≤ length room

-- a place leaves what its body applies, and no other abstraction leaves anything
pub record Contracts (room : List ℕ) (binder : Binder) (body : ℕ) (r : Option ℕ) : Type 0 where
  pub goes : (m : ℕ) → r ≡ Some m → (b : Named) → Names room b body
      → ((binder.linear && ends_in binder.level b) ≡ true) × (m < body) × Names room (applied b) m
  pub stays : r ≡ None → (b : Named) → Names room b body → (binder.linear && ends_in binder.level b) ≡ false

-- A NODE WHOSE PARTS ARE DONE: it is kept if it says this already, and else put as the next one
abbrev pub KeptOrPut : (before : List ℕ) (node : ℕ) (made : Node) (left : Bool) (used steps : ℕ) → State → List ℕ
    → Type 0
KeptOrPut before node made left used steps r after =
    ((node_at before node ≡ made)
    × (◌≡◌ {A = State} r (record { node = node; used = used; steps = steps; left = left }))
    × (after ≡ before))
    ⊎ ((◌≡◌ {A = State} r (record { node = used; used = used + 1; steps = steps; left = left }))
    × Stored before after used (word_of made) (link_of made))

-- AN APPLICATION whose parts are done
pub record Joinable (room : List ℕ) (node : ℕ) (left : ℕ) (right : State) : Type 0 where
  pub left_term : Named
  pub right_term : Named
  pub names : Names room (joins left_term right_term) node
  pub below : node < right.used
  pub left_below : left < right.used
  pub right_below : right.node < right.used
  pub fits : 2 * right.used + 2 ≤ length room
  pub few : right.used ≤ 4 * most_nodes

pub record Joins (before : List ℕ) (node : ℕ) (left right r : State) (after : List ℕ) : Type 0 where
  pub comes : (c d : Came) → StandsFor before left c → StandsFor before right d → StandsFor after r (beside c d)
  pub most : r.used ≤ right.used + 1
  pub grows : right.used ≤ r.used
  pub same : Same before after right.used

-- AN ABSTRACTION whose body is done
pub record Bindable (room : List ℕ) (node : ℕ) (binder : Binder) (body : State) : Type 0 where
  pub body_term : Named
  pub names : Names room (binds binder.level body_term) node
  pub packable : binder.level < 2305843009213693952
  pub came : Came
  pub stands : StandsFor room body came
  pub below : node < body.used
  pub fits : 2 * body.used + 2 ≤ length room
  pub few : body.used ≤ 4 * most_nodes
  pub counted : body.steps ≤ 4 * most_nodes

-- it stays
pub record Rebinds (before : List ℕ) (node : ℕ) (binder : Binder) (body : State) (left : Bool) (r : State)
    (after : List ℕ) : Type 0 where
  pub comes : (b : Named) (c : Came) → Names before (binds binder.level b) node → binder.linear ≡ lone binder.level b
      → StandsFor before body c → lone binder.level c.1 ≡ lone binder.level b
      → StandsFor after r (c.0, binds binder.level c.1, left)
  pub most : r.used ≤ body.used + 1
  pub grows : body.used ≤ r.used
  pub same : Same before after body.used

-- it stays or goes
pub record Binds (before : List ℕ) (node : ℕ) (binder : Binder) (body : State) (limit : ℕ) (r : State)
    (after : List ℕ) : Type 0 where
  pub comes : (b : Named) (c : Came) → Names before (binds binder.level b) node → binder.linear ≡ lone binder.level b
      → StandsFor before body c → lone binder.level c.1 ≡ lone binder.level b
      → StandsFor after r (again (may_follow limit) binder.level (lone binder.level b) c)
  pub most : r.used ≤ body.used + 1
  pub grows : body.used ≤ r.used
  pub same : Same before after body.used

-- whatever named term the node is, it comes to what it shrinks to, and the nodes before are as they were
pub record Shrinks (before : List ℕ) (node used steps limit : ℕ) (r : State) (after : List ℕ) : Type 0 where
  pub comes : (t : Named) → Names before t node → StandsFor after r (shrunk (may_follow limit) steps t)
  pub most : (t : Named) → Names before t node → r.used ≤ used + weight t
  pub grows : used ≤ r.used
  pub same : Same before after used
