-- What a run of eta says of the steps: each was allowed, their number is told, and where one more may follow no place
-- is left.
use Prim.Native.Nat.{ℕ, zero, suc, ◌+◌, ◌≤◌, ◌<◌}
use mathlib.Core.Path.{◌≡◌, refl, sym, ◌∙◌}
use mathlib.Core.Bool.{Bool, true, false, ◌||◌, cond, true≢false}
use mathlib.Core.Option.{Option, none, some}
use native.Mathlib.Omega.{arith}
use native.Mathlib.Decide.{dec_lt}
use borrow.Author.Tests.{eqb-true, eqb-false, ltb-true, ltb-false}
use lib.Dec.{eqb, ltb}
use Rattle.calculus.specs.Term.{Term, var, lam, app, nodes}
use Rattle.calculus.specs.Runs.{finished, unfinished}
use Rattle.calculus.specs.Ends.{EtaStep, at_root, in_body, in_left, in_right, EtaSteps, none_made, one_more}
use Rattle.calculus.specs.Ends.{EtaEnds, eta_finished, eta_unfinished}
use Rattle.calculus.specs.Eta.{lower, eta_step, is_some, has_place, Counted, may_follow, step_if, stay_or}
use Rattle.calculus.specs.Eta.{while_possible}
use Rattle.calculus.specs.Eta.{do_parts, eta_from, eta}
use Rattle.calculus.proofs.Measures.{nodes_positive}
use Rattle.calculus.proofs.Tests.{neither}
use Rattle.calculus.proofs.Lowering.{place-lower, EtaView, place, no_place, eta_view, eta_smaller}

-- STEPS one after another, and in a part
pub steps_then : {m n : ℕ} {t u v : Term} → EtaSteps m t u → EtaSteps n u v → (k : ℕ) → k ≡ m + n → EtaSteps k t v
steps_then {n = n} none_made q k e = let same : k ≡ n = omega arith in rw same q
steps_then (one_more s p) q zero e = absurd (omega arith)
steps_then (one_more s p) q (suc k) e = one_more s (steps_then p q k (omega arith))

pub steps_in : (f : Term → Term) → ((t u : Term) → EtaStep t u → EtaStep (f t) (f u)) → {n : ℕ} {t u : Term}
    → EtaSteps n t u → EtaSteps n (f t) (f u)
steps_in f keep none_made = none_made
steps_in f keep (one_more {t = t} {u = u} s p) = one_more (keep t u s) (steps_in f keep p)

pub nodes-taken : {n : ℕ} {t u : Term} → EtaSteps n t u → nodes u ≤ nodes t
nodes-taken none_made = omega arith
nodes-taken (one_more s p) = omega (arith, nodes-taken p, (eta_smaller s).three_nodes)

-- A TERM WITH NO PLACE has no step at its root
no_step : (x : Option Term) → is_some x ≡ false → x ≡ none
no_step none e = refl
no_step (some t) e = absurd (true≢false e)

pub placeless : (t : Term) → has_place t ≡ false → eta_step t ≡ none
unfolding has_place
placeless (var i) h = refl
placeless (lam b) h = no_step (eta_step (lam b)) (neither (is_some (eta_step (lam b))) (has_place b) h).0
placeless (app l r) h = refl

module _ (more : ℕ → Bool) where
  -- from t after n steps to u after m steps, each of which was allowed
  pub record Progress (n : ℕ) (t : Term) (m : ℕ) (u : Term) : Type 0 where
    pub made : ℕ
    pub steps : EtaSteps made t u
    pub count : m ≡ n + made
    pub allowed : (j : ℕ) → n ≤ j → j < m → more j ≡ true

  no_progress : (n : ℕ) (t : Term) → Progress n t n t
  no_progress n t = record { made = 0; steps = none_made; count = omega arith; allowed = λ j h k. absurd (omega arith) }

  progress_then : {n m k : ℕ} {t u v : Term} → Progress n t m u → Progress m u k v → Progress n t k v
  progress_then {m = m} p q =
      record {
        made = p.made + q.made;
        steps = steps_then p.steps q.steps (p.made + q.made) refl;
        count = omega (arith, p.count, q.count);
        allowed = λ j h k. elim (dec_lt j m) [ yes l ↦ p.allowed j h l | no l ↦ q.allowed j (omega arith) k ];
      }

  progress_in : (f : Term → Term) → ((t u : Term) → EtaStep t u → EtaStep (f t) (f u)) → {n m : ℕ} {t u : Term}
      → Progress n t m u → Progress n (f t) m (f u)
  progress_in f keep p =
      record { made = p.made; steps = steps_in f keep p.steps; count = p.count; allowed = p.allowed }

  -- where a run of some steps comes to, and what then holds
  pub record Comes (P : ℕ → Term → Type 0) (n : ℕ) (t : Term) (c : Counted) : Type 0 where
    pub way : Progress n t c.0 c.1
    pub so : P c.0 c.1

  -- no place is left, if one more step may follow
  abbrev pub Settled : ℕ → Term → Type 0
  Settled m u = more m ≡ true → has_place u ≡ false

  -- AT A NODE: the steps are allowed ones
  pub step-allowed : (b : Bool) (t : Term) {u : Term} → step_if b t ≡ some u → (b ≡ true) × (eta_step t ≡ some u)
  step-allowed true t e = (refl, e)
  step-allowed false t e = let never : ◌≡◌ {A = ℕ} 0 1 = cc in absurd (omega arith)

  one_step : (n : ℕ) (t : Term) {u : Term} → step_if (more n) t ≡ some u → Progress n t (suc n) u
  one_step n t e =
      let (b, k) = step-allowed (more n) t e in
      record {
        made = 1;
        steps = one_more (at_root k) none_made;
        count = omega arith;
        allowed = λ j h l. let same : j ≡ n = omega arith in rw same b;
      }

  comes-after : {P : ℕ → Term → Type 0} {n m : ℕ} {t u : Term} {c : Counted} → Progress n t m u → Comes P m u c
      → Comes P n t c
  comes-after p q = record { way = progress_then p q.way; so = q.so }

  comes-here : {P : ℕ → Term → Type 0} (n : ℕ) (t : Term) → P n t → Comes P n t (n, t)
  comes-here n t h = record { way = no_progress n t; so = h }

  stay-comes : {P : ℕ → Term → Type 0} (n : ℕ) (t : Term) (go : Term → Counted) (x : Option Term)
      → step_if (more n) t ≡ x
      → (x ≡ none → P n t) → ((u : Term) → step_if (more n) t ≡ some u → Comes P (suc n) u (go u))
      → Comes P n t (stay_or (n, t) go x)
  stay-comes n t go none e here on = comes-here n t (here refl)
  stay-comes n t go (some u) e here on = comes-after (one_step n t e) (on u e)

  abbrev pub Anything : ℕ → Term → Type 0
  Anything m u = Unit {0}

  pub while-comes : (tries n : ℕ) (t : Term) → Comes Anything n t (while_possible more tries n t)
  unfolding while_possible
  while-comes zero n t = comes-here n t tt
  while-comes (suc tries) n t =
      stay-comes n t _ (step_if (more n) t) refl (λ _. tt) (λ u _. while-comes tries (suc n) u)

  -- AT AN ABSTRACTION AGAIN: where its body has no place, none is left
  step_if-none : (b : Bool) (t : Term) → eta_step t ≡ none → step_if b t ≡ none
  step_if-none true t e = e
  step_if-none false t e = refl

  still : (tries n : ℕ) (t : Term) → has_place t ≡ false → while_possible more tries n t ≡ (n, t)
  unfolding while_possible
  still zero n t h = refl
  still (suc tries) n t h = rw (step_if-none (more n) t (placeless t h))

  -- the place that a contraction leaves was there before
  left_placeless : {t u : Term} (b : Term) {x : Option Term} → t ≡ lam b → EtaView t x → x ≡ some u
      → has_place b ≡ false → has_place u ≡ false
  unfolding has_place
  left_placeless {u = u} b e (place {m = m} k) f h =
      let body : b ≡ app m (var 1) = cc in
      let same : lower 0 m ≡ u = cc in
      rw (← same, place-lower 0 m) (neither (has_place m) false (rw body at h)).0
  left_placeless b e no_place f h = let never : ◌≡◌ {A = ℕ} 0 1 = cc in absurd (omega arith)

  again-comes : (tries n : ℕ) (b : Term) → Settled n b
      → Comes Settled n (lam b) (while_possible more (suc tries) n (lam b))
  unfolding while_possible has_place
  again-comes tries n b s =
      stay-comes n (lam b) _ (step_if (more n) (lam b)) refl here on
    where
      here : step_if (more n) (lam b) ≡ none → Settled n (lam b)
      here e a = rw (rw a at e, s a)

      on : (u : Term) → step_if (more n) (lam b) ≡ some u
          → Comes Settled (suc n) u (while_possible more tries (suc n) u)
      on u e =
          let (a, k) = step-allowed (more n) (lam b) e in
          let h : has_place u ≡ false = left_placeless b refl (eta_view (lam b)) k (s a) in
          rw (still tries (suc n) u h) (comes-here (suc n) u (λ _. h))

  -- THE PARTS: what was settled earlier stays so, since every later step was allowed
  earlier : {n m : ℕ} {t u : Term} → Progress n t m u → more m ≡ true → more n ≡ true
  earlier {n} {m} p a =
      elim (dec_lt n m) [
        | yes l ↦ p.allowed n (omega arith) l
        | no l ↦ let same : n ≡ m = omega (arith, p.count) in rw same a
      ]

  parts_come : (tries n : ℕ) (t : Term) → nodes t ≤ suc tries → (go : ℕ → Term → Counted)
      → ((m : ℕ) (u : Term) → nodes u ≤ tries → Comes Settled m u (go m u))
      → Comes Settled n t (do_parts (while_possible more (suc tries)) go n t)
  unfolding has_place nodes
  parts_come tries n (var i) h go on = comes-here n (var i) (λ _. refl)
  parts_come tries n (lam b) h go on =
      let c = on n b (omega arith) in
      comes-after (progress_in lam (λ _ _ e. in_body e) c.way) (again-comes tries (go n b).0 (go n b).1 c.so)
  parts_come tries n (app l r) h go on =
      let c = on n l (omega arith) in
      let d = on (go n l).0 r (omega arith) in
      let left = progress_in (λ x. app x r) (λ _ _ e. in_left e) c.way in
      let right = progress_in (app (go n l).1) (λ _ _ e. in_right e) d.way in
      record { way = progress_then left right; so = λ a. rw (c.so (earlier d.way a), d.so a) }

  -- THE WHOLE SEQUENCE
  pub eta-comes : (tries n : ℕ) (t : Term) → nodes t ≤ tries → Comes Settled n t (eta_from more tries n t)
  unfolding eta_from
  eta-comes zero n t h = absurd (omega (arith, nodes_positive t))
  eta-comes (suc tries) n t h =
      let c : Counted = while_possible more (suc tries) n t in
      let w = while-comes (suc tries) n t in
      comes-after w.way
      (parts_come tries c.0 c.1 (omega (arith, nodes-taken w.way.steps)) (eta_from more tries)
      (eta-comes tries))

-- HOW A RUN ENDS: no step may follow just where a limit is reached
may_not : (limit n : ℕ) → may_follow limit n ≡ false → (0 < limit) × (limit ≤ n)
may_not limit n e = read (eqb limit 0) refl e
  where
    read : (b : Bool) → eqb limit 0 ≡ b → (b || ltb n limit) ≡ false → (0 < limit) × (limit ≤ n)
    read true p q = absurd (true≢false q)
    read false p q = (let k = eqb-false limit 0 p in omega arith, ltb-false n limit q)

may : (limit n : ℕ) → may_follow limit n ≡ true → 0 < limit → n < limit
may limit n e h = read (eqb limit 0) refl e
  where
    read : (b : Bool) → eqb limit 0 ≡ b → (b || ltb n limit) ≡ true → n < limit
    read true p q = let k = eqb-true limit 0 p in absurd (omega arith)
    read false p q = ltb-true n limit q

within-limit : (limit : ℕ) {t u : Term} {m : ℕ} → Progress (may_follow limit) 0 t m u → 0 < limit → m ≤ limit
within-limit limit {m = zero} p h = omega arith
within-limit limit {m = suc m} p h = may limit m (p.allowed m (omega arith) (omega arith)) h

ended : (limit : ℕ) {t u : Term} {m : ℕ} → Progress (may_follow limit) 0 t m u → Settled (may_follow limit) m u
    → (b : Bool) → has_place u ≡ b
    → (more : Bool) → may_follow limit m ≡ more → EtaEnds limit t (cond b (unfinished m u) (finished m u))
ended limit {m = m} p s false h more f =
    let same : p.made ≡ m = omega (arith, p.count) in
    eta_finished (within-limit limit p) (rw same at p.steps) h
ended limit {m = m} p s true h true f = absurd (true≢false (sym h ∙ s f))
ended limit {t = t} {u = u} {m = m} p s true h false f =
    let (k, l) = may_not limit m f in
    let same : m ≡ limit = omega (arith, within-limit limit p k) in
    let made : p.made ≡ limit = omega (arith, p.count) in
    rw same (eta_unfinished k (rw made at p.steps) h)

pub eta-ends : (limit : ℕ) (t : Term) → EtaEnds limit t (eta limit t)
unfolding eta
eta-ends limit t =
    let c : Counted = eta_from (may_follow limit) (nodes t) 0 t in
    let h = eta-comes (may_follow limit) (nodes t) 0 t (omega arith) in
    ended limit h.way h.so (has_place c.1) refl (may_follow limit c.0) refl
