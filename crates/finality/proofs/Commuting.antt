-- How raising and putting commute: the substitution lemmas of de Bruijn's indices.
use Prim.Native.Nat.{ℕ, suc, ◌+◌, ◌≤◌, ◌<◌, pred}
use mathlib.Core.Path.{◌≡◌, ap, ap₂, sym}
use native.Mathlib.Omega.{arith}
use native.Mathlib.Decide.{dec_le}
use Rattle.calculus.specs.Term.{Term, var, lam, app}
use Rattle.calculus.specs.Substitution.{raise, put}
use Rattle.calculus.proofs.Substituting.{index, split, below, at, above}

-- raising twice is raising once by the sum
pub raise-raise : (j k c d : ℕ) → c ≤ d → d ≤ c + k → (t : Term) → raise j d (raise k c t) ≡ raise (k + j) c t
unfolding raise
raise-raise j k c d p q (var i) =
    elim (dec_le i c) [
      | yes h ↦ let f : i ≤ d = omega arith in simp index
      | no h ↦ let f : c < i = omega arith in let g : d < i + k = omega arith in simp index (ap var (omega arith))
    ]
raise-raise j k c d p q (lam b) = ap lam (raise-raise j k (suc c) (suc d) (omega arith) (omega arith) b)
raise-raise j k c d p q (app l r) = ap₂ app (raise-raise j k c d p q l) (raise-raise j k c d p q r)

-- raising outer indices and inner ones, in either sequence
pub raise_swap : (j k c d e : ℕ) → c ≤ d → e ≡ d + k → (t : Term) → raise j e (raise k c t) ≡ raise k c (raise j d t)
unfolding raise
raise_swap j k c d e p q (var i) =
    elim (dec_le i c) [
      | yes h ↦ let f : i ≤ d = omega arith in let g : i ≤ e = omega arith in simp index
      | no h ↦
          let f : c < i = omega arith in
          elim (dec_le i d) [
            | yes g ↦ let g' : i + k ≤ e = omega arith in simp index
            | no g ↦
                let g₁ : d < i = omega arith in
                let g₂ : e < i + k = omega arith in
                let g₃ : c < i + j = omega arith in
                simp index (ap var (omega arith))
          ]
    ]
raise_swap j k c d e p q (lam b) = ap lam (raise_swap j k (suc c) (suc d) (suc e) (omega arith) (omega arith) b)
raise_swap j k c d e p q (app l r) = ap₂ app (raise_swap j k c d e p q l) (raise_swap j k c d e p q r)

-- raising what a contraction left
pub raise-put : (k c d e : ℕ) (a : Term) → e ≡ d + c → (t : Term)
    → raise k e (put d a t) ≡ put d (raise k c a) (raise k (suc e) t)
unfolding raise put
raise-put k c d e a p (var i) =
    elim (split i d) [
      | below h ↦ let f : i ≤ e = omega arith in let g : i ≤ suc e = omega arith in simp index
      | at h ↦ let g : i ≤ suc e = omega arith in simp index (raise_swap k d 0 c e (omega arith) (omega arith) a)
      | above h ↦
          elim (dec_le i (suc e)) [
            | yes g ↦ let f : pred i ≤ e = omega arith in simp index
            | no g ↦
                let g₁ : suc e < i = omega arith in
                let g₂ : e < pred i = omega arith in
                let g₃ : suc d < i + k = omega arith in
                simp index (ap var (omega arith))
          ]
    ]
raise-put k c d e a p (lam b) = ap lam (raise-put k c (suc d) (suc e) a (omega arith) b)
raise-put k c d e a p (app l r) = ap₂ app (raise-put k c d e a p l) (raise-put k c d e a p r)

-- what is put for an index that no variable has is dropped
pub put_dropped : (k c d : ℕ) (a : Term) → c ≤ d → d ≤ c + k → (t : Term) → put d a (raise (suc k) c t) ≡ raise k c t
unfolding raise put
put_dropped k c d a p q (var i) =
    elim (dec_le i c) [
      | yes h ↦ let f : i ≤ d = omega arith in simp index
      | no h ↦
          let f : c < i = omega arith in
          let g : suc d < i + suc k = omega arith in
          simp index (ap var (omega arith))
    ]
put_dropped k c d a p q (lam b) = ap lam (put_dropped k (suc c) (suc d) a (omega arith) (omega arith) b)
put_dropped k c d a p q (app l r) = ap₂ app (put_dropped k c d a p q l) (put_dropped k c d a p q r)

-- putting into what was raised
pub put-raise : (k c d e : ℕ) (a : Term) → c ≤ d → e ≡ d + k → (t : Term)
    → put e a (raise k c t) ≡ raise k c (put d a t)
unfolding raise put
put-raise k c d e a p q (var i) =
    elim (dec_le i c) [
      | yes h ↦ let f : i ≤ d = omega arith in let g : i ≤ e = omega arith in simp index
      | no h ↦
          let f : c < i = omega arith in
          elim (split i d) [
            | below g ↦ let g' : i + k ≤ e = omega arith in simp index
            | at g ↦
                let g' : i + k ≡ suc e = omega arith in
                simp index (rw (raise-raise k d 0 c (omega arith) (omega arith) a, q))
            | above g ↦
                let g₁ : suc e < i + k = omega arith in
                let g₂ : c < pred i = omega arith in
                simp index (ap var (omega arith))
          ]
    ]
put-raise k c d e a p q (lam b) = ap lam (put-raise k (suc c) (suc d) (suc e) a (omega arith) (omega arith) b)
put-raise k c d e a p q (app l r) = ap₂ app (put-raise k c d e a p q l) (put-raise k c d e a p q r)

-- putting into what a contraction left
pub put-put : (c d e : ℕ) (a b : Term) → e ≡ d + c → (t : Term)
    → put e a (put d b t) ≡ put d (put c a b) (put (suc e) a t)
unfolding put
put-put c d e a b p (var i) =
    elim (split i d) [
      | below h ↦ let f : i ≤ e = omega arith in let g : i ≤ suc e = omega arith in simp index
      | at h ↦ let g : i ≤ suc e = omega arith in simp index (put-raise d 0 c e a (omega arith) (omega arith) b)
      | above h ↦
          elim (split i (suc e)) [
            | below g ↦ let f : pred i ≤ e = omega arith in simp index
            | at g ↦
                let f : pred i ≡ suc e = omega arith in
                simp index (sym (put_dropped e 0 d (put c a b) (omega arith) (omega arith) a))
            | above g ↦
                let g₁ : suc e < pred i = omega arith in
                let g₂ : suc d < pred i = omega arith in
                simp index
          ]
    ]
put-put c d e a b p (lam t) = ap lam (put-put c (suc d) (suc e) a b (omega arith) t)
put-put c d e a b p (app l r) = ap₂ app (put-put c d e a b p l) (put-put c d e a b p r)
