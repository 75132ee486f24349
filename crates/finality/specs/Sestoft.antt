-- SESTOFT'S RULES for the seven orders: a term and its value by an order.
use Rattle.std.specs.Prelude.{ℕ, ◌≡◌, true, false}
use Rattle.calculus.specs.Term.{Term, var, lam, app}
use Rattle.calculus.specs.Substitution.{contract}
use Rattle.calculus.specs.Orders.{Order, enters}
use Rattle.calculus.specs.Traits.{spine, eager, hybrid, NotLam}

pub data Big : Order → Term → Term → Type 0 where
  big_var : {o : Order} {i : ℕ} → Big o (var i) (var i)
  big_whole : {o : Order} {b : Term} → enters o ≡ false → Big o (lam b) (lam b)
  big_body : {o : Order} {b c : Term} → enters o ≡ true → Big o b c → Big o (lam b) (lam c)
  big_name : {o : Order} {l r b u : Term} → eager o ≡ false → Big (spine o) l (lam b) → Big o (contract b r) u
      → Big o (app l r) u
  big_value : {o : Order} {l r b s u : Term} → eager o ≡ true → Big (spine o) l (lam b) → Big o r s
      → Big o (contract b s) u → Big o (app l r) u
  big_head : {o : Order} {l m r : Term} → hybrid o ≡ false → eager o ≡ false → Big (spine o) l m → NotLam m
      → Big o (app l r) (app m r)
  big_pair : {o : Order} {l m r s : Term} → hybrid o ≡ false → eager o ≡ true → Big (spine o) l m → NotLam m
      → Big o r s → Big o (app l r) (app m s)
  big_hybrid : {o : Order} {l m n r s : Term} → hybrid o ≡ true → Big (spine o) l m → NotLam m → Big o m n → Big o r s
      → Big o (app l r) (app n s)
