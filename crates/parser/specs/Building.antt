-- What the code's parts stand for, and what building them asks and gives.
use Rattle.std.specs.Prelude.{ℕ, ◌+◌, ◌*◌, ◌≤◌, ◌<◌, ◌≡◌, List, length}
use Rattle.std.proofs.Math.Option.{none, some}
use Rattle.calculus.specs.Term.{Term, var, nodes, height}
use Rattle.calculus.specs.Bounds.{most_nodes, most_height, most_text}
use Rattle.nodes.specs.Store.{Holds, Same}
use Rattle.parser.specs.States.{State, reading, void, beside, under}
use Rattle.parser.specs.declared.building.Part as code
use Rattle.parser.specs.declared.building.Part.TheVariants as part
use Rattle.parser.specs.declared.building.Found.{Found}
use Rattle.parser.specs.declared.building.Built.{Built}

-- a part stands for a state: of the nodes counted after `base`, a term has all, and it is in the store if the count is
-- within the cap and its height within the bound
pub data Means (xs : List ℕ) (cap base used : ℕ) : code.Part → State → Type 0 where
  nothing : used ≡ base → Means xs cap base used part.Nothing (reading none)
  term : {t : Term} {found : Found} → found.height ≡ height t → used ≡ base + nodes t → found.node < used
      → (used ≤ cap → height t ≤ most_height → Holds xs t found.node)
      → Means xs cap base used (part.Term found) (reading (some t))
  empty : base ≤ used → Means xs cap base used part.Empty void

-- the store has two numbers for each node of the cap, and the count is far from the greatest number
pub record Roomy (xs : List ℕ) (cap used : ℕ) : Type 0 where
  pub in_bounds : cap ≤ most_nodes
  pub room : 2 * cap ≤ length xs
  pub few : used ≤ 2 * most_text + 2

-- what was read stands for some state
pub record Enclosable (xs : List ℕ) (cap : ℕ) (read : Built) : Type 0 where
  pub base : ℕ
  pub state : State
  pub means : Means xs cap base read.used read.part state

-- and so does its next item, whose nodes come after
pub record Joinable (xs : List ℕ) (cap : ℕ) (read item : Built) : Type 0 where
  pub base : ℕ
  pub state : State
  pub inner : State
  pub means : Means xs cap base read.used read.part state
  pub next : Means xs cap read.used item.used item.part inner

-- of two terms
pub record Applicable (xs : List ℕ) (cap used : ℕ) (left right : Found) : Type 0 where
  pub base : ℕ
  pub mid : ℕ
  pub state : State
  pub inner : State
  pub means : Means xs cap base mid (part.Term left) state
  pub next : Means xs cap mid used (part.Term right) inner

-- nodes made before stay, and at most so many are added
pub record Adds (xs ys : List ℕ) (used most : ℕ) (r : Built) : Type 0 where
  pub same : Same xs ys used
  pub grows : used ≤ r.used
  pub most_added : r.used ≤ used + most

-- a variable
pub record Makes (xs : List ℕ) (cap used index : ℕ) (ys : List ℕ) (r : Built) : Type 0 where
  pub adds : Adds xs ys used 1 r
  pub means : Means ys cap used r.used r.part (reading (some (var index)))

-- the abstraction of a body, whatever that stands for
pub record Encloses (xs : List ℕ) (cap : ℕ) (body : Built) (ys : List ℕ) (r : Built) : Type 0 where
  pub adds : Adds xs ys body.used 1 r
  pub means : (base : ℕ) (st : State) → Means xs cap base body.used body.part st
      → Means ys cap base r.used r.part (under st)

-- the application of one term to another
pub record Applies (xs : List ℕ) (cap used : ℕ) (left right : Found) (ys : List ℕ) (r : Built) : Type 0 where
  pub adds : Adds xs ys used 1 r
  pub means : (base mid : ℕ) (st inner : State) → Means xs cap base mid (part.Term left) st
      → Means xs cap mid used (part.Term right) inner → Means ys cap base r.used r.part (beside st inner)

-- what was read, and an item
pub record Joins (xs : List ℕ) (cap : ℕ) (read item : Built) (ys : List ℕ) (r : Built) : Type 0 where
  pub adds : Adds xs ys item.used 1 r
  pub means : (base : ℕ) (st inner : State) → Means xs cap base read.used read.part st
      → Means xs cap read.used item.used item.part inner
      → Means ys cap base r.used r.part (beside st inner)

-- and a variable
pub record Extends (xs : List ℕ) (cap : ℕ) (read : Built) (index : ℕ) (ys : List ℕ) (r : Built) : Type 0 where
  pub adds : Adds xs ys read.used 2 r
  pub means : (base : ℕ) (st : State) → Means xs cap base read.used read.part st
      → Means ys cap base r.used r.part (beside st (reading (some (var index))))

-- and an abstraction
pub record JoinsUnder (xs : List ℕ) (cap : ℕ) (read body : Built) (ys : List ℕ) (r : Built) : Type 0 where
  pub adds : Adds xs ys body.used 2 r
  pub means : (base : ℕ) (st inner : State) → Means xs cap base read.used read.part st
      → Means xs cap read.used body.used body.part inner
      → Means ys cap base r.used r.part (beside st (under inner))
