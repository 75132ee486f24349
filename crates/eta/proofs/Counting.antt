-- Counting how often binders are named: each variable adds one, parts add up, and a binder's own count starts at 0.
use Prim.Native.Nat.{ℕ, suc, ◌+◌, ◌-◌, ◌*◌, ◌≤◌, ◌<◌}
use mathlib.Core.Path.{◌≡◌, refl, sym, ap, ◌∙◌}
use mathlib.Core.Bool.{Bool, true, false, cond}
use mathlib.Core.List.{List}
use native.Mathlib.Omega.{arith}
use native.Mathlib.Decide.{dec_le}
use lib.Dec.{leb, eqb}
use lib.ListN.{length, set, get_or, length-set}
use lib.Seq.{get_or-set_same, get_or-set_other}
use borrow.Author.Tests.{eqb-true, eqb-false, ne_eqb}
use Rattle.calculus.specs.Term.{Term, var, lam, app, nodes}
use Rattle.calculus.specs.Bounds.{most_nodes}
use Rattle.eta.specs.Named.{Named, bound, loose, binds, joins, named, uses}
use Rattle.eta.specs.Naming.{Counts, Countable}

-- A VARIABLE
pub counts-loose : (counts : List ℕ) (depth j : ℕ) → Counts counts counts depth (loose j)
unfolding uses
counts-loose counts depth j = record { as_long = refl; added = λ k lt. omega arith }

pub counts-bound : (counts : List ℕ) (depth m : ℕ) → m < length counts
    → Counts counts (set counts m (get_or counts m 0 + 1)) depth (bound m)
unfolding uses
counts-bound counts depth m inside = record {
  as_long = length-set counts m (get_or counts m 0 + 1);
  added = λ k lt. by k (eqb m k) refl;
}
  where
    by : (k : ℕ) (p : Bool) → eqb m k ≡ p
        → get_or (set counts m (get_or counts m 0 + 1)) k 0 ≡ get_or counts k 0 + cond p 1 0
    by k true e = rw (sym (eqb-true m k e)) (get_or-set_same counts m (get_or counts m 0 + 1) 0 inside)
    by k false e =
        get_or-set_other counts m k (get_or counts m 0 + 1) 0 (λ z. eqb-false m k e (omega arith)) ∙ omega arith

-- AN ABSTRACTION: its own count starts at 0, the others go on
module _ (counts : List ℕ) {after : List ℕ} {depth : ℕ} {b : Named}
    (body : Counts (set counts depth 0) after (depth + 1) b) where
  pub counts-binder : Counts counts after depth (binds depth b)
  unfolding uses
  counts-binder = record {
    as_long = body.as_long ∙ length-set counts depth 0;
    added = λ k lt.
        let other = get_or-set_other counts depth k 0 0 (λ e. omega arith) in
        rw (ne_eqb depth k (λ e. omega arith)) (body.added k (omega arith) ∙ ap (λ n. n + uses k b) other);
  }

  pub counted-binder : depth < length counts → get_or after depth 0 ≡ uses depth b
  counted-binder inside =
      body.added depth (omega arith)
      ∙ rw (get_or-set_same counts depth 0 0 inside) (omega arith)

-- AN APPLICATION
pub counts-application : {counts mid after : List ℕ} {depth : ℕ} {l r : Named} → Counts counts mid depth l
    → Counts mid after depth r → Counts counts after depth (joins l r)
unfolding uses
counts-application first second = record {
  as_long = second.as_long ∙ first.as_long;
  added = λ k lt. omega (arith, first.added k lt, second.added k lt);
}

-- a binder is named at most once at each node
either-within : (p : Bool) {most : ℕ} (m n : ℕ) → m ≤ most → n ≤ most → cond p m n ≤ most
either-within true m n first second = first
either-within false m n first second = second

pub uses-few : (k d : ℕ) (t : Term) → uses k (named d t) ≤ nodes t
unfolding uses named nodes
uses-few k d (var i) = by (eqb i 0) (leb i d)
  where
    by : (p q : Bool) → uses k (cond p (loose 0) (cond q (bound (d - i)) (loose (i - d)))) ≤ 1
    by true q = omega arith
    by false true = either-within (eqb (d - i) k) 1 0 (omega arith) (omega arith)
    by false false = omega arith
uses-few k d (lam b) =
    either-within (eqb d k) 0 (uses k (named (suc d) b)) (omega arith) (omega (arith, uses-few k (suc d) b))
uses-few k d (app l r) = omega (arith, uses-few k d l, uses-few k d r)

-- WHAT IS COUNTABLE
pub fewer : {counts : List ℕ} {depth n : ℕ} (m : ℕ) → m ≤ n → Countable counts depth n → Countable counts depth m
fewer m le now = record { long = now.long; few = λ k lt. omega (arith, now.few k lt) }

pub countable-body : {counts : List ℕ} {depth n : ℕ} (m : ℕ) → m ≤ n → m ≤ 4 * most_nodes → depth < length counts
    → Countable counts depth n → Countable (set counts depth 0) (depth + 1) m
countable-body {counts} {depth} m le few inside now = record {
  long = omega (arith, length-set counts depth 0);
  few = λ k lt.
      elim (dec_le depth k) [
        | yes h ↦
            let own : k ≡ depth = omega arith in
            rw (own, get_or-set_same counts depth 0 0 inside) (omega arith)
        | no h ↦
            rw (get_or-set_other counts depth k 0 0 (λ e. omega arith)) (omega (arith, now.few k (omega arith)))
      ];
}

pub countable-after : {counts mid : List ℕ} {depth n : ℕ} (m : ℕ) (l : Named) → ((k : ℕ) → uses k l + m ≤ n)
    → Countable counts depth n → Counts counts mid depth l → Countable mid depth m
countable-after m l le now first = record {
  long = omega (arith, first.as_long, now.long);
  few = λ k lt. omega (arith, now.few k lt, first.added k lt, le k);
}
