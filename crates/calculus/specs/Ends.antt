-- WHAT THE END OF A RUN MEANS, told by steps and not by the functions that make them.
use Rattle.std.specs.Prelude.{ℕ, suc, ◌≤◌, ◌<◌, ◌≡◌, true, false}
use Rattle.std.proofs.Math.Option.{Option, none, some}
use Rattle.calculus.specs.Term.{Term, lam, app}
use Rattle.calculus.specs.Refusal.{Refusal}
use Rattle.calculus.specs.Orders.{Order, step}
use Rattle.calculus.specs.Runs.{Run, finished, unfinished, refused_after}
use Rattle.calculus.specs.Eta.{eta_step, has_place}

-- REDUCTION: n steps of an order
pub data Steps (o : Order) : ℕ → Term → Term → Type 0 where
  stay : {t : Term} → Steps o 0 t t
  go : {n : ℕ} {t u v : Term} → step o t ≡ some u → Steps o n u v → Steps o (suc n) t v

-- n steps, each to a term that a judge accepts
pub data Accepted (judge : Term → Option Refusal) (o : Order) : ℕ → Term → Term → Type 0 where
  stay_so : {t : Term} → Accepted judge o 0 t t
  go_on : {n : ℕ} {t u v : Term} → step o t ≡ some u → judge u ≡ none → Accepted judge o n u v
      → Accepted judge o (suc n) t v

pub data Ends (judge : Term → Option Refusal) (o : Order) (limit : ℕ) (t : Term) : Run Term → Type 0 where
  -- Finished: no step is left, also when the count equals the limit
  ends_finished : {n : ℕ} {u : Term} → n ≤ limit → Accepted judge o n t u → step o u ≡ none
      → Ends judge o limit t (finished n u)
  -- Unfinished: the count equals the limit and a step is left
  ends_unfinished : {u v : Term} → Accepted judge o limit t u → step o u ≡ some v
      → Ends judge o limit t (unfinished limit u)
  -- refused: short of the limit, the next term is not accepted
  ends_refused : {n : ℕ} {u v : Term} {e : Refusal} → n < limit → Accepted judge o n t u → step o u ≡ some v
      → judge v ≡ some e
      → Ends judge o limit t (refused_after n e)

-- ETA: one contraction at any place, and n of them
pub data EtaStep : Term → Term → Type 0 where
  at_root : {t u : Term} → eta_step t ≡ some u → EtaStep t u
  in_body : {b c : Term} → EtaStep b c → EtaStep (lam b) (lam c)
  in_left : {l m r : Term} → EtaStep l m → EtaStep (app l r) (app m r)
  in_right : {l r s : Term} → EtaStep r s → EtaStep (app l r) (app l s)

pub data EtaSteps : ℕ → Term → Term → Type 0 where
  none_made : {t : Term} → EtaSteps 0 t t
  one_more : {n : ℕ} {t u v : Term} → EtaStep t u → EtaSteps n u v → EtaSteps (suc n) t v

-- limit 0 is none; a run of eta is never refused
pub data EtaEnds (limit : ℕ) (t : Term) : Run Term → Type 0 where
  eta_finished : {n : ℕ} {u : Term} → (0 < limit → n ≤ limit) → EtaSteps n t u → has_place u ≡ false
      → EtaEnds limit t (finished n u)
  eta_unfinished : {u : Term} → 0 < limit → EtaSteps limit t u → has_place u ≡ true
      → EtaEnds limit t (unfinished limit u)
