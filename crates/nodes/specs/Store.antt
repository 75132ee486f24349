-- Which term a node of the room is, and that nodes once made stay as they are.
use Rattle.std.specs.Prelude.{ℕ, ◌+◌, ◌*◌, ◌/◌, ◌%◌, ◌<◌, ◌≡◌, List, length, get_or}
use Rattle.calculus.specs.Term.{Term, var, lam, app, nodes, height}
use Rattle.calculus.specs.Queries.{max_free}
use Rattle.calculus.specs.Traits.{NotLam}
use Rattle.nodes.specs.Packing.{kind_in, nodes_in, height_in, free_in, normal_in}

-- a node's two numbers
abbrev pub word : List ℕ → ℕ → ℕ
word xs n = get_or xs (2 * n) 0

abbrev pub link : List ℕ → ℕ → ℕ
link xs n = get_or xs (2 * n + 1) 0

-- as in coded bytes
unfoldable pub kind : Term → ℕ
kind (var i) = 1
kind (lam b) = 2
kind (app l r) = 3

-- no application in it has an abstraction on its left
pub data Normal : Term → Type 0 where
  variable : {i : ℕ} → Normal (var i)
  abstraction : {b : Term} → Normal b → Normal (lam b)
  application : {l r : Term} → NotLam l → Normal l → Normal r → Normal (app l r)

-- what a first number says of a term: below 1023, no index is free beyond `free`
pub record Says (w : ℕ) (t : Term) : Type 0 where
  pub kind_is : kind_in w ≡ kind t
  pub nodes_are : nodes_in w ≡ nodes t
  pub height_is : height_in w ≡ height t
  pub free_are : free_in w < 1023 → max_free (free_in w) t ≡ 0
  pub is_normal : normal_in w ≡ 1 → Normal t

-- node n is the term; parts have smaller numbers
unfoldable pub Holds : List ℕ → Term → ℕ → Type 0
Holds xs (var i) n = Says (word xs n) (var i) × (link xs n ≡ i)
Holds xs (lam b) n = Says (word xs n) (lam b) × (link xs n < n) × Holds xs b (link xs n)
Holds xs (app l r) n =
    Says (word xs n) (app l r) × (link xs n % 4294967296 < n) × (link xs n / 4294967296 < n)
    × Holds xs l (link xs n % 4294967296) × Holds xs r (link xs n / 4294967296)

-- the first nodes of two rooms, so many, are the same, and the rooms are as long
pub record Same (xs ys : List ℕ) (used : ℕ) : Type 0 where
  pub as_long : length ys ≡ length xs
  pub kept : (k : ℕ) → k < 2 * used → get_or ys k 0 ≡ get_or xs k 0
