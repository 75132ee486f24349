-- ETA: each step takes three nodes and raises neither index nor height, so that no refusal follows the input's own.
use Prim.Native.Nat.{ℕ, ◌+◌, ◌*◌, ◌≤◌, ◌<◌}
use mathlib.Core.Path.{◌≡◌, refl, sym, ◌∙◌}
use mathlib.Core.Bool.{Bool, true, false, ◌||◌, true≢false}
use mathlib.Core.List.{List}
use mathlib.Core.Option.{Option, none, some, none-ne-some}
use native.Mathlib.Omega.{arith}
use Rattle.calculus.specs.Term.{Term, var, lam, app, nodes, height, greatest_index}
use Rattle.calculus.specs.Refusal.{Refusal, given}
use Rattle.calculus.specs.Judging.{judge}
use Rattle.calculus.specs.Runs.{Run, finished, unfinished, refused_after}
use Rattle.calculus.specs.Eta.{eta_step, is_some, has_place, eta}
use Rattle.calculus.specs.Ends.{EtaStep, at_root, in_body, in_left, in_right, EtaSteps, none_made, one_more, EtaEnds}
use Rattle.calculus.specs.Ends.{eta_finished, eta_unfinished}
use Rattle.calculus.specs.Outcomes.{checked, cap_allowed, suffice, eta_of}
use Rattle.calculus.proofs.Coding.{AllBytes, decoded_small}
use Rattle.calculus.proofs.Judged.{accepts, checked-given}
use Rattle.calculus.proofs.Tests.{neither}
use Rattle.calculus.proofs.Lowering.{eta_smaller}
use Rattle.calculus.proofs.EtaRuns.{eta-ends, placeless}
use Rattle.finality.specs.Meaning.{out_of_bounds, room_lacking, input_refused, run_refused}
use Rattle.finality.proofs.Meaning.{EtaReduces, eta-means}

-- so many steps take three times so many nodes, and raise nothing
pub record Shrinks (n : ℕ) (t u : Term) : Type 0 where
  pub three_each : nodes t ≡ 3 * n + nodes u
  pub no_higher : height u ≤ height t
  pub no_greater : greatest_index u ≤ greatest_index t

pub eta-shrinks : {n : ℕ} {t u : Term} → EtaSteps n t u → Shrinks n t u
eta-shrinks none_made = omega arith
eta-shrinks (one_more s p) = omega (arith, eta_smaller s, eta-shrinks p)

-- NO REFUSAL CAN FOLLOW: every term that eta reaches from an accepted input would be accepted
pub eta-accepted : (cap : ℕ) {n : ℕ} (s : List ℕ) {t u : Term} → AllBytes s → checked cap s ≡ given t → EtaSteps n t u
    → judge cap u ≡ none
eta-accepted cap s {t} {u} b c p =
    let (d, h, k) = checked-given s c in
    let q = eta-shrinks p in
    accepts u (omega (arith, q.no_greater, decoded_small s b d)) (omega (arith, q.no_higher))
    (omega (arith, q.three_each))

-- and none does follow: the answer is no refusal
pub eta_never_refused : (limit cap : ℕ) (s out room : List ℕ) {t : Term}
    → cap_allowed cap ≡ true → suffice cap out room ≡ true → checked cap s ≡ given t
    → {n : ℕ} {e : Refusal} → (eta_of limit cap s out room).0 ≡ refused_after n e → ⊥
eta_never_refused limit cap s out room {t} a q c e = read (rw e at (eta-means limit cap s out room))
  where
    no_end : {t : Term} {n : ℕ} {e : Refusal} → EtaEnds limit t (refused_after n e) → ⊥
    no_end x = elim x [ ]

    read : {n : ℕ} {e : Refusal} {w z : List ℕ} → EtaReduces limit cap s out room (refused_after n e) w z → ⊥
    read (out_of_bounds p) = true≢false (sym a ∙ p)
    read (room_lacking p r) = true≢false (sym q ∙ r)
    read (input_refused p r x) = let never : ◌≡◌ {A = ℕ} 0 1 = cc in omega arith
    read (run_refused x) = no_end x.ends

-- A PLACE IS LEFT exactly where a step is
abbrev Steps : Term → Type 0
Steps t = (u : Term) × EtaStep t u

root_steps : (t : Term) (x : Option Term) → eta_step t ≡ x → (rest : Bool) → (is_some x || rest) ≡ true
    → (rest ≡ true → Steps t) → Steps t
root_steps t none e rest h go = go h
root_steps t (some u) e rest h go = (u, at_root e)

left-steps : (l r : Term) (x : Bool) → (x || has_place r) ≡ true → (x ≡ true → Steps l)
    → (has_place r ≡ true → Steps r) → Steps (app l r)
left-steps l r true h in_l in_r = let (m, k) = in_l refl in (app m r, in_left k)
left-steps l r false h in_l in_r = let (m, k) = in_r h in (app l m, in_right k)

pub place-steps : (t : Term) → has_place t ≡ true → Steps t
unfolding has_place
place-steps (var i) h = absurd (true≢false (sym h))
place-steps (lam b) h =
    root_steps (lam b) (eta_step (lam b)) refl (has_place b) h (λ k. let (c, s) = place-steps b k in (lam c, in_body s))
place-steps (app l r) h = left-steps l r (has_place l) h (place-steps l) (place-steps r)

pub steps-place : {t u : Term} → EtaStep t u → has_place t ≡ false → ⊥
unfolding has_place
steps-place (at_root {t = t} {u = u} e) h = none-ne-some u (sym (placeless t h) ∙ e)
steps-place (in_body {b = b} s) h = steps-place s (neither (is_some (eta_step (lam b))) (has_place b) h).1
steps-place (in_left {l = l} {r = r} s) h = steps-place s (neither (has_place l) (has_place r) h).0
steps-place (in_right {l = l} {r = r} s) h = steps-place s (neither (has_place l) (has_place r) h).1

-- FINISHED EXACTLY WHEN NO PLACE IS LEFT
pub eta_finished_so : (limit : ℕ) (t : Term) {n : ℕ} {u : Term} → eta limit t ≡ finished n u
    → EtaSteps n t u × (has_place u ≡ false)
eta_finished_so limit t e = read (rw e at (eta-ends limit t))
  where
    read : {n : ℕ} {u : Term} → EtaEnds limit t (finished n u) → EtaSteps n t u × (has_place u ≡ false)
    read (eta_finished h p k) = (p, k)

pub eta_unfinished_so : (limit : ℕ) (t : Term) {n : ℕ} {u : Term} → eta limit t ≡ unfinished n u
    → EtaSteps n t u × (has_place u ≡ true) × (n ≡ limit) × (0 < limit)
eta_unfinished_so limit t e = read (rw e at (eta-ends limit t))
  where
    read : {n : ℕ} {u : Term} → EtaEnds limit t (unfinished n u)
        → EtaSteps n t u × (has_place u ≡ true) × (n ≡ limit) × (0 < limit)
    read (eta_unfinished l p k) = (p, k, refl, l)

-- and with no limit always
pub eta_unlimited : (t : Term) → (n : ℕ) × (u : Term) × (eta 0 t ≡ finished n u)
eta_unlimited t = read (eta 0 t) (eta-ends 0 t)
  where
    read : (r : Run Term) → EtaEnds 0 t r → (n : ℕ) × (u : Term) × (r ≡ finished n u)
    read (finished n u) e = (n, u, refl)
    read (unfinished n u) (eta_unfinished l p k) = absurd (omega arith)
    read (refused_after n e) x = elim x [ ]
