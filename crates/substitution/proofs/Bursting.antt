-- An argument that is put in takes an index past the greatest number where it is put deepest, or nowhere.
use Prim.Native.Nat.{ℕ, suc, pred, ◌+◌, ◌-◌, ◌≤◌, ◌<◌, max}
use mathlib.Core.Path.{◌≡◌, ap, ◌∙◌}
use mathlib.Core.Bool.{Bool, true, false, cond}
use mathlib.Core.List.{List}
use native.Mathlib.Omega.{arith}
use native.Mathlib.Decide.{dec_le}
use lib.Dec.{leb}
use Rattle.calculus.specs.Term.{Term, var, lam, app, greatest_index}
use Rattle.calculus.specs.Bounds.{greatest_number}
use Rattle.calculus.specs.Substitution.{raise, put, contract}
use Rattle.calculus.proofs.Substituting.{Split, below, at, above, split, put-below, put_at, put-above}
use Rattle.substitution.specs.Weighing.{deepest, too_great, Overflowable, Overflows, Occurring, Bursts}
use Rattle.substitution.proofs.Counting.{index-here, index_other, within}
use Rattle.substitution.proofs.Overflowing.{fits_told, both_great}

-- raised further, an index is no less
raise-further : (j k d : ℕ) (t : Term) → j ≤ k → greatest_index (raise j d t) ≤ greatest_index (raise k d t)
unfolding raise greatest_index
raise-further j k d (var i) le = by (leb i d)
  where
    by : (b : Bool) → greatest_index (cond b (var i) (var (i + j))) ≤ greatest_index (cond b (var i) (var (i + k)))
    by true = omega arith
    by false = omega arith
raise-further j k d (lam b) le = raise-further j k (suc d) b le
raise-further j k d (app l r) le =
    let left = raise-further j k d l le in let right = raise-further j k d r le in omega arith

-- what is as great as every index before, and every one of the argument where it is put deepest, is so afterwards
put-within : (d : ℕ) (a t : Term) (top : ℕ) → greatest_index t ≤ top
    → (0 < deepest d t → greatest_index (raise (deepest d t - 1) 0 a) ≤ top) → greatest_index (put d a t) ≤ top
unfolding deepest put greatest_index
put-within d a (var i) top h deep = by (split i d)
  where
    by : Split i d → greatest_index (put d a (var i)) ≤ top
    by (below le) = rw (put-below d a i le) h
    by (at e) =
        let one : suc d - 1 ≡ d = omega arith in
        rw (put_at d a i e) (rw ((index-here d a i e).deepest_is, one) at deep (omega arith))
    by (above lt) = let low : pred i ≤ top = omega arith in rw (put-above d a i lt) low
put-within d a (lam b) top h deep = put-within (suc d) a b top h deep
put-within d a (app l r) top h deep =
    let part : (t : Term) → deepest d t ≤ max (deepest d l) (deepest d r) → 0 < deepest d t
    → greatest_index (raise (deepest d t - 1) 0 a) ≤ top =
    λ t le some.
    let further = raise-further (deepest d t - 1) (max (deepest d l) (deepest d r) - 1) 0 a (omega arith) in
    omega (arith, deep (omega arith)) in
    let left = put-within d a l top (omega arith) (part l (omega arith)) in
    let right = put-within d a r top (omega arith) (part r (omega arith)) in
    omega arith

raised-within : (d : ℕ) (a t : Term) → 0 < deepest d t
    → greatest_index (raise (deepest d t - 1) 0 a) ≤ greatest_index (put d a t)
unfolding deepest put greatest_index
raised-within d a (var i) some = by (split i d)
  where
    by : Split i d → greatest_index (raise (deepest d (var i) - 1) 0 a) ≤ greatest_index (put d a (var i))
    by (below le) = absurd (omega (arith, (index_other d a i (λ e. omega arith)).deepest_is))
    by (at e) =
        let one : suc d - 1 ≡ d = omega arith in
        rw (put_at d a i e, (index-here d a i e).deepest_is, one) (omega arith)
    by (above lt) = absurd (omega (arith, (index_other d a i (λ e. omega arith)).deepest_is))
raised-within d a (lam b) some = raised-within (suc d) a b some
raised-within d a (app l r) some =
    elim (dec_le (deepest d r) (deepest d l)) [
      | yes h ↦
          (let e : max (deepest d l) (deepest d r) ≡ deepest d l = omega arith in
          rw e (omega (arith, raised-within d a l (omega arith))))
      | no h ↦
          (let e : max (deepest d l) (deepest d r) ≡ deepest d r = omega arith in
          rw e (omega (arith, raised-within d a r (omega arith))))
    ]

module _ {room : List ℕ} {argument place : ℕ} where
  pub at_none : place ≡ 0 → Bursts room argument place false
  at_none none = record {
    tells = λ b a h e fits.
        fits_told (contract b a) (put-within 0 a b greatest_number fits (λ some. absurd (omega arith)));
  }

  module _ (other : place ≡ 0 → ⊥) where
    pub argument_asks : Occurring room argument place → Overflowable room argument (place - 1) 0
    argument_asks asked = record {
      term = asked.put_term;
      holds = asked.holds_put;
      inside = asked.inside;
      deep = omega (arith, asked.low_put);
      little = omega (arith, asked.deepest_at, (within 0 asked.put_term asked.term).near, asked.low);
    }

    pub at_some : {r : Bool} → Overflows room argument (place - 1) 0 r → Bursts room argument place r
    at_some x = record {
      tells = λ b a h e fits.
          let some : 0 < deepest 0 b = omega (arith, other) in
          x.tells a h
          ∙ ap (λ (p : ℕ). too_great (raise (p - 1) 0 a)) e
          ∙ both_great (raise (deepest 0 b - 1) 0 a) (contract b a)
          (λ low. put-within 0 a b greatest_number fits (λ z. low))
          (λ low. omega (arith, raised-within 0 a b some));
    }
