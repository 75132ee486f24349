-- Raising a term's free indices: what stays as it was, and what a first number says of it afterwards.
use Prim.Native.Nat.{ℕ, suc, ◌+◌, ◌*◌, ◌-◌, ◌≤◌, ◌<◌}
use mathlib.Core.Path.{◌≡◌, refl, sym, ap, ap₂, ◌∙◌}
use mathlib.Core.Bool.{Bool, true, false, cond}
use native.Mathlib.Omega.{arith}
use lib.Dec.{leb, ltb}
use borrow.Author.Tests.{ltb-true}
use Rattle.calculus.specs.Term.{Term, var, lam, app, height}
use Rattle.calculus.specs.Substitution.{raise}
use Rattle.calculus.specs.Queries.{max_free}
use Rattle.calculus.specs.Traits.{NotLam, var_not_lam, app_not_lam}
use Rattle.calculus.proofs.Substituting.{raise-bound}
use Rattle.calculus.proofs.Growth.{nodes-raise}
use Rattle.nodes.specs.Packing.{kind_in, nodes_in, height_in, free_in, normal_in}
use Rattle.nodes.specs.Store.{Says, Normal, kind, variable, abstraction, application}
use Rattle.substitution.specs.Raising.{lifted}

-- THE TERM
-- what holds of an index as it was and of the raised one
pub by_index : (P : Term → Type 0) (k d i : ℕ) → P (var i) → P (var (i + k)) → P (raise k d (var i))
unfolding raise
by_index P k d i stays moves = by_test (leb i d)
  where
    by_test : (b : Bool) → P (cond b (var i) (var (i + k)))
    by_test true = stays
    by_test false = moves

-- raised by nothing, a term is the same
pub raise-nothing : (d : ℕ) (t : Term) → raise 0 d t ≡ t
unfolding raise
raise-nothing d (var i) = by_index (λ u. u ≡ var i) 0 d i refl (ap var (omega arith))
raise-nothing d (lam b) = ap lam (raise-nothing (suc d) b)
raise-nothing d (app l r) = ap₂ app (raise-nothing d l) (raise-nothing d r)

pub raise_stays : (k : ℕ) {f d : ℕ} (t : Term) → f ≤ d → max_free f t ≡ 0 → raise k d t ≡ t
unfolding raise max_free
raise_stays k {f} {d} (var i) le h = raise-bound k d i (omega arith)
raise_stays k (lam b) le h = ap lam (raise_stays k b (omega arith) h)
raise_stays k (app l r) le h = ap₂ app (raise_stays k l le (omega arith)) (raise_stays k r le (omega arith))

pub height-raise : (k d : ℕ) (t : Term) → height (raise k d t) ≡ height t
unfolding raise height
height-raise k d (var i) = by_index (λ u. height u ≡ 1) k d i refl refl
height-raise k d (lam b) = rw (height-raise k (suc d) b)
height-raise k d (app l r) = rw (height-raise k d l, height-raise k d r)

kind-raise : (k d : ℕ) (t : Term) → kind (raise k d t) ≡ kind t
unfolding raise kind
kind-raise k d (var i) = by_index (λ u. kind u ≡ 1) k d i refl refl
kind-raise k d (lam b) = refl
kind-raise k d (app l r) = refl

free_raise : (k d f : ℕ) {g : ℕ} (t : Term) → g ≡ f + k → max_free f t ≡ 0 → max_free g (raise k d t) ≡ 0
unfolding raise max_free
free_raise k d f {g} (var i) sum h = by_index (λ u. max_free g u ≡ 0) k d i (omega arith) (omega arith)
free_raise k d f (lam b) sum h = free_raise k (suc d) (suc f) b (omega arith) h
free_raise k d f (app l r) sum h =
    let left = free_raise k d f l sum (omega arith) in
    let right = free_raise k d f r sum (omega arith) in
    omega arith

not_lam-raise : (k d : ℕ) {t : Term} → NotLam t → NotLam (raise k d t)
unfolding raise
not_lam-raise k d (var_not_lam {i}) = by_index NotLam k d i var_not_lam var_not_lam
not_lam-raise k d app_not_lam = app_not_lam

normal-raise : (k d : ℕ) {t : Term} → Normal t → Normal (raise k d t)
unfolding raise
normal-raise k d (variable {i}) = by_index Normal k d i variable variable
normal-raise k d (abstraction b) = abstraction (normal-raise k (suc d) b)
normal-raise k d (application x l r) = application (not_lam-raise k d x) (normal-raise k d l) (normal-raise k d r)

-- THE FIRST NUMBER
-- what is added to the bound: it stays below 1024, and is the amount if it says anything
added_is : (w k : ℕ) → let e = cond (ltb (free_in w + k) 1023) k (1023 - free_in w) in
    (free_in w + e < 1024) × (free_in w + e < 1023 → e ≡ k)
added_is w k = by (ltb (free_in w + k) 1023) refl
  where
    by : (b : Bool) → ltb (free_in w + k) 1023 ≡ b → let e = cond b k (1023 - free_in w) in
        (free_in w + e < 1024) × (free_in w + e < 1023 → e ≡ k)
    by true is = let low = ltb-true (free_in w + k) 1023 is in (omega arith, λ h. refl)
    by false is = (omega arith, λ h. omega arith)

-- each part has its own place: only the bound moves
free_added : (w e : ℕ) → free_in w + e < 1024 → free_in (w + 1073741824 * e) ≡ free_in w + e
free_added w e low = omega arith

normal-added : (w e : ℕ) → free_in w + e < 1024 → normal_in (w + 1073741824 * e) ≡ normal_in w
normal-added w e low = omega arith

kind-added : (w e : ℕ) → kind_in (w + 1073741824 * e) ≡ kind_in w
kind-added w e = omega arith

nodes-added : (w e : ℕ) → nodes_in (w + 1073741824 * e) ≡ nodes_in w
nodes-added w e = omega arith

height-added : (w e : ℕ) → height_in (w + 1073741824 * e) ≡ height_in w
height-added w e = omega arith

pub says-lifted : (w k d : ℕ) (t : Term) → Says w t → Says (lifted w k) (raise k d t)
says-lifted w k d t said =
    let e = cond (ltb (free_in w + k) 1023) k (1023 - free_in w) in
    let (low, known) = added_is w k in
    let free_is = free_added w e low in
    record {
      kind_is = kind-added w e ∙ said.kind_is ∙ sym (kind-raise k d t);
      nodes_are = nodes-added w e ∙ said.nodes_are ∙ sym (nodes-raise k d t);
      height_is = height-added w e ∙ said.height_is ∙ sym (height-raise k d t);
      free_are = λ small.
          let sum = ap (λ (x : ℕ). free_in w + x) (known (rw free_is at small)) in
          free_raise k d (free_in w) t (free_is ∙ sum) (said.free_are (omega arith));
      is_normal = λ is. normal-raise k d (said.is_normal (sym (normal-added w e low) ∙ is));
    }
