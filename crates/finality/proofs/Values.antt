-- Finished runs give values by Sestoft's rules: the two say the same.
use Prim.Native.Nat.{ℕ, suc}
use mathlib.Core.Path.{◌≡◌, refl, sym, ap, ap₂, ◌∙◌, subst}
use mathlib.Core.Bool.{true, false, false≢true}
use mathlib.Core.Logic.{inl, inr, ◌↔◌}
use mathlib.Core.Option.{Option, none, some}
use Rattle.calculus.specs.Term.{Term, var, lam, app}
use Rattle.finality.specs.Beta.{Many, done, next}
use Rattle.calculus.specs.Orders.{Order, enters, step}
use Rattle.calculus.specs.Ends.{Steps, stay, go}
use Rattle.calculus.specs.Traits.{spine, eager, hybrid, late, NotLam}
use Rattle.calculus.proofs.NextStep.{Unless, Stuck, Goes}
use Rattle.calculus.proofs.NextStep.{Next, at_spine, at_early, at_here, at_left, at_late, nowhere, step-next}
use Rattle.calculus.proofs.NextStep.{NextBody, at_body, no_body, body-next}
use Rattle.calculus.proofs.Spines.{clash, not_lam, stuck-var, keeps, hybrid-late, late-hybrid}
use Rattle.finality.specs.Sestoft.{Big, big_var, big_whole, big_body, big_name, big_value, big_head, big_pair}
use Rattle.finality.specs.Sestoft.{big_hybrid}
use Rattle.finality.proofs.Finishing.{big-finishes, true-or_false}
use Rattle.finality.specs.Finished.{Finished}

-- what it says of L R, or of an abstraction, that no step is left
abbrev Nowhere : Order → Term → Term → Type 0
Nowhere o l r =
    Stuck (spine o) l × Unless (eager o) (step o r) × NotLam l × Unless (hybrid o) (step o l) × Unless (late o)
    (step o r)

stuck-app : (o : Order) (l r : Term) → Stuck o (app l r) → Nowhere o l r
stuck-app o l r k = parts (rw k at (step-next o l r))
  where
    parts : Next o l r none → Nowhere o l r
    parts (nowhere h u n v w) = (h, u, n, v, w)

stuck-lam : (o : Order) (b : Term) → Stuck o (lam b) → Unless (enters o) (step o b)
stuck-lam o b k = part (rw k at (body-next o b))
  where
    part : NextBody o b none → Unless (enters o) (step o b)
    part (no_body u) = u

stuck-argument : (o : Order) {x : Option Term} → hybrid o ≡ true → Unless (eager o) x → Unless (late o) x → x ≡ none
stuck-argument o p u w = elim (true-or_false (eager o)) [ inl q ↦ u q | inr q ↦ w (hybrid-late o p q) ]

-- a term with no step left is its own value
stuck-big : (o : Order) (t : Term) → Stuck o t → Big o t t
stuck-big o (var i) k = big_var
stuck-big o (lam b) k =
    elim (true-or_false (enters o)) [ inl p ↦ big_body p (stuck-big o b (stuck-lam o b k p)) | inr p ↦ big_whole p ]
stuck-big o (app l r) k =
    let (h, u, n, v, w) = stuck-app o l r k in
    let f = stuck-big (spine o) l h in
    elim (true-or_false (hybrid o)) [
      | inl p ↦ big_hybrid p f n (stuck-big o l (v p)) (stuck-big o r (stuck-argument o p u w))
      | inr p ↦
          elim (true-or_false (eager o)) [
            | inl q ↦ big_pair p q f n (stuck-big o r (u q))
            | inr q ↦ big_head p q f n
          ]
    ]

-- and has no other
big_still : {o : Order} {t u : Term} → Big o t u → Stuck o t → t ≡ u
big_still big_var k = refl
big_still (big_whole p) k = refl
big_still {o} (big_body {b} p g) k = ap lam (big_still g (stuck-lam o b k p))
big_still {o} (big_name {l} {r} p f g) k =
    let (h, u, n, v, w) = stuck-app o l r k in absurd (not_lam (rw (big_still f h) at n))
big_still {o} (big_value {l} {r} p f a g) k =
    let (h, u, n, v, w) = stuck-app o l r k in absurd (not_lam (rw (big_still f h) at n))
big_still {o} (big_head {l} {r} p q f n) k = ap (λ m. app m r) (big_still f (stuck-app o l r k).0)
big_still {o} (big_pair {l} {r} p q f n a) k =
    let (h, u, _, v, w) = stuck-app o l r k in ap₂ app (big_still f h) (big_still a (u q))
big_still {o} (big_hybrid {l} {r} p f n g a) k =
    let (h, u, _, v, w) = stuck-app o l r k in
    ap₂ app (big_still f h ∙ big_still g (rw (big_still f h) at (v p))) (big_still a (stuck-argument o p u w))

-- a part of L R may be exchanged for one that has the same values
same-spine : {o : Order} {l m r v : Term} → ((w : Term) → Big (spine o) m w → Big (spine o) l w) → Big o (app m r) v
    → Big o (app l r) v
same-spine same (big_name {b} p f g) = big_name p (same (lam b) f) g
same-spine same (big_value {b} p f a g) = big_value p (same (lam b) f) a g
same-spine same (big_head {m} p q f n) = big_head p q (same m f) n
same-spine same (big_pair {m} p q f n a) = big_pair p q (same m f) n a
same-spine same (big_hybrid {m} p f n g a) = big_hybrid p (same m f) n g a

same-argument : {o : Order} {l r s v : Term}
    → (eager o ≡ false → (hybrid o ≡ true) × ((b : Term) → Big (spine o) l (lam b) → ⊥))
    → ((w : Term) → Big o s w → Big o r w) → Big o (app l s) v → Big o (app l r) v
same-argument strict same (big_name {b} p f g) = absurd ((strict p).1 b f)
same-argument strict same (big_value {s} p f a g) = big_value p f (same s a) g
same-argument strict same (big_head p q f n) = absurd (false≢true (sym p ∙ (strict q).0))
same-argument strict same (big_pair {s} p q f n a) = big_pair p q f n (same s a)
same-argument strict same (big_hybrid {s} p f n g a) = big_hybrid p f n g (same s a)

never_lam : {o : Order} {t b : Term} → Stuck o t → NotLam t → Big o t (lam b) → ⊥
never_lam h n f = not_lam (rw (big_still f h) at n)

same_left : {o : Order} {l m r v : Term} → hybrid o ≡ true → Stuck (spine o) l → NotLam l → Stuck (spine o) m
    → NotLam m
    → ((w : Term) → Big o m w → Big o l w) → Big o (app m r) v → Big o (app l r) v
same_left hyb h n g k same (big_name p f b) = absurd (never_lam g k f)
same_left hyb h n g k same (big_value p f a b) = absurd (never_lam g k f)
same_left hyb h n g k same (big_head p q f _) = absurd (false≢true (sym p ∙ hyb))
same_left hyb h n g k same (big_pair p q f _ a) = absurd (false≢true (sym p ∙ hyb))
same_left {o} {l} hyb h n g k same (big_hybrid {n = w} p f _ b a) =
    big_hybrid p (stuck-big (spine o) l h) n (same w (rw (big_still f g) b)) a

-- the values of a term are those of its next term
abbrev Expands : Term → Type 0
Expands t = (o : Order) (u v : Term) → Goes o t u → Big o u v → Big o t v

expand_body : {o : Order} {b u v : Term} → Expands b → NextBody o b (some u) → Big o u v → Big o (lam b) v
expand_body ih (at_body p e) (big_whole q) = absurd (false≢true (sym q ∙ p))
expand_body {o} ih (at_body {c} p e) (big_body {c = d} q g) = big_body q (ih o c d e g)

expand_app : {o : Order} {l r u v : Term} → Expands l → Expands r → Next o l r (some u) → Big o u v
    → Big o (app l r) v
expand_app {o} ih_l ih_r (at_spine {m} e) g = same-spine (λ w. ih_l (spine o) m w e) g
expand_app {o} ih_l ih_r (at_early {s} h p e) g =
    same-argument (λ q. absurd (false≢true (sym q ∙ p))) (λ w. ih_r o s w e) g
expand_app {o} {l} {r} ih_l ih_r (at_here h u e) g =
    let f = subst (Big (spine o) l) e (stuck-big (spine o) l h) in
    elim (true-or_false (eager o)) [ inl p ↦ big_value p f (stuck-big o r (u p)) g | inr p ↦ big_name p f g ]
expand_app {o} {l} ih_l ih_r (at_left {m} h u n p e) g =
    let (k, j) = keeps o l m h e in same_left p h n k (j n) (λ w. ih_l o m w e) g
expand_app {o} ih_l ih_r (at_late {s} h u n v p e) g =
    same-argument (λ q. (late-hybrid o p, λ b f. never_lam h n f)) (λ w. ih_r o s w e) g

big_expand : (t : Term) → Expands t
big_expand (var i) o u v e g = absurd (clash (stuck-var o i) e)
big_expand (lam b) o u v e g = expand_body (big_expand b) (rw e at (body-next o b)) g
big_expand (app l r) o u v e g = expand_app (big_expand l) (big_expand r) (rw e at (step-next o l r)) g

-- a finished run's last term is a value by Sestoft's rules
pub finished-big : {o : Order} {n : ℕ} {t u : Term} → Steps o n t u → Stuck o u → Big o t u
finished-big {o} {t} stay k = stuck-big o t k
finished-big {o} {t} {u} (go {u = w} e s) k = big_expand t o w u e (finished-big s k)

pub many-steps : {o : Order} {t u : Term} → Many (Goes o) t u → (n : ℕ) × Steps o n t u
many-steps done = (0, stay)
many-steps (next e s) = let (n, z) = many-steps s in (suc n, go e z)

-- Sestoft's rules and finished runs agree, in each of the seven orders
pub sestoft : (o : Order) (t u : Term) → Big o t u ↔ ((n : ℕ) × Finished o n t u)
sestoft o t u = (
  λ b. let (s, k) = big-finishes b in let (n, z) = many-steps s in (n, record { reached = z; stuck = k }),
  λ f. finished-big f.1.reached f.1.stuck,
)
