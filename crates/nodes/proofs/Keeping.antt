-- What is kept when nodes are added: the nodes before, and so the terms that they are.
use Prim.Native.Nat.{ℕ, ◌+◌, ◌*◌, ◌/◌, ◌%◌, ◌≤◌, ◌<◌}
use mathlib.Core.Path.{◌≡◌, refl, ◌∙◌}
use mathlib.Core.List.{List}
use native.Mathlib.Omega.{arith}
use lib.ListN.{get_or}
use Rattle.calculus.specs.Term.{Term, var, lam, app}
use Rattle.nodes.specs.Store.{Says, Holds, Same, word, link}

pub same_refl : (xs : List ℕ) (u : ℕ) → Same xs xs u
same_refl xs u = record { as_long = refl; kept = λ k lt. refl }

pub same_then : {xs ys zs : List ℕ} {u v : ℕ} → u ≤ v → Same xs ys u → Same ys zs v → Same xs zs u
same_then le first second = record {
  as_long = second.as_long ∙ first.as_long;
  kept = λ k lt. second.kept k (omega arith) ∙ first.kept k lt;
}

-- nodes with the same numbers are the same terms, whatever stands behind them
module _ (xs ys : List ℕ) (u : ℕ) (same : (k : ℕ) → k < 2 * u → get_or ys k 0 ≡ get_or xs k 0) where
  pub holds-moved : (t : Term) (n : ℕ) → n < u → Holds xs t n → Holds ys t n
  unfolding Holds
  holds-moved (var i) n lt h =
      let w = same (2 * n) (omega arith) in let x = same (2 * n + 1) (omega arith) in rw (w, x) h
  holds-moved (lam b) n lt h =
      let w = same (2 * n) (omega arith) in
      let x = same (2 * n + 1) (omega arith) in
      rw (w, x) (h.0, h.1, holds-moved b (link xs n) (omega arith) h.2)
  holds-moved (app l r) n lt h =
      let w = same (2 * n) (omega arith) in
      let x = same (2 * n + 1) (omega arith) in
      let left = holds-moved l (link xs n % 4294967296) (omega arith) h.3 in
      let right = holds-moved r (link xs n / 4294967296) (omega arith) h.4 in
      rw (w, x) (h.0, h.1, h.2, left, right)

-- a node below those that were added is the term that it was
pub holds_kept : {xs ys : List ℕ} {u : ℕ} (t : Term) (n : ℕ) → Same xs ys u → n < u → Holds xs t n → Holds ys t n
holds_kept {xs} {ys} {u} t n same lt h = holds-moved xs ys u same.kept t n lt h

pub says : (xs : List ℕ) (t : Term) (n : ℕ) → Holds xs t n → Says (word xs n) t
unfolding Holds
says xs (var i) n h = h.0
says xs (lam b) n h = h.0
says xs (app l r) n h = h.0
