-- What a term is, and what it measures.
use Rattle.std.specs.Prelude.{ℕ, suc, ◌+◌, max}

-- a variable with its index, an abstraction, an application
pub data Term : Type 0 where
  var : ℕ → Term
  lam : Term → Term
  app : Term → Term → Term

-- every variable, abstraction and application counts one
unfoldable pub nodes : Term → ℕ
nodes (var i) = 1
nodes (lam b) = suc (nodes b)
nodes (app l r) = suc (nodes l + nodes r)

-- a variable has height 1, an abstraction one more than its body, an application one more than the taller part
unfoldable pub height : Term → ℕ
height (var i) = 1
height (lam b) = suc (height b)
height (app l r) = suc (max (height l) (height r))

-- the greatest index in it
unfoldable pub greatest_index : Term → ℕ
greatest_index (var i) = i
greatest_index (lam b) = greatest_index b
greatest_index (app l r) = max (greatest_index l) (greatest_index r)
