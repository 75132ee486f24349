-- What a run under a limit says of the steps: how it ends, which terms were judged, and that it cannot end otherwise.
use Prim.Native.Nat.{ℕ, zero, suc, ◌+◌, ◌≤◌, ◌<◌, zero-le, suc-le-suc}
use mathlib.Core.Path.{◌≡◌, refl, ap}
use mathlib.Core.Option.{Option, none, some}
use native.Mathlib.Omega.{arith}
use Rattle.calculus.specs.Term.{Term}
use Rattle.calculus.specs.Refusal.{Refusal}
use Rattle.calculus.specs.Orders.{Order, step}
use Rattle.calculus.specs.Runs.{Run, finished, unfinished, refused_after}
use Rattle.calculus.specs.Ends.{Steps, stay, go, Accepted, stay_so, go_on, Ends, ends_finished, ends_unfinished}
use Rattle.calculus.specs.Ends.{ends_refused}
use Rattle.calculus.specs.Runs.{counted, by_step, by_judge, run}

pub accepted-steps : {judge : Term → Option Refusal} {o : Order} {n : ℕ} {t u : Term} → Accepted judge o n t u
    → Steps o n t u
accepted-steps stay_so = stay
accepted-steps (go_on e a s) = go e (accepted-steps s)

-- steps after steps
pub accepted_then : {judge : Term → Option Refusal} {o : Order} {m n : ℕ} {t u v : Term} → Accepted judge o m t u
    → Accepted judge o n u v
    → Accepted judge o (m + n) t v
accepted_then {n} stay_so q = let same : 0 + n ≡ n = omega arith in rw same q
accepted_then {n} (go_on {n = m} e a p) q =
    let same : suc m + n ≡ suc (m + n) = omega arith in rw same (go_on e a (accepted_then p q))

-- another judge accepts at least as much
pub accepted_by : {judge judge' : Term → Option Refusal} {o : Order} {n : ℕ} {t u : Term}
    → ((v : Term) → judge v ≡ none → judge' v ≡ none) → Accepted judge o n t u → Accepted judge' o n t u
accepted_by f stay_so = stay_so
accepted_by f (go_on {u = u} e a s) = go_on e (f u a) (accepted_by f s)

module _ (judge : Term → Option Refusal) (o : Order) where
  ends-counted : {limit : ℕ} {t u : Term} {r : Run Term} → step o t ≡ some u → judge u ≡ none → Ends judge o limit u r
      → Ends judge o (suc limit) t (counted r)
  ends-counted e a (ends_finished h s k) = ends_finished (suc-le-suc h) (go_on e a s) k
  ends-counted e a (ends_unfinished s k) = ends_unfinished (go_on e a s) k
  ends-counted e a (ends_refused h s k j) = ends_refused (suc-le-suc h) (go_on e a s) k j

  ends-judged : {limit : ℕ} {t u : Term} {r : Run Term} → step o t ≡ some u → Ends judge o limit u r
      → (x : Option Refusal) → judge u ≡ x
      → Ends judge o (suc limit) t (by_judge x r)
  ends-judged e s none a = ends-counted e a s
  ends-judged e s (some x) a = ends_refused (suc-le-suc zero-le) stay_so e a

  ends-by_step : {limit : ℕ} {t : Term} (more : Term → Run Term)
      → ((u : Term) → step o t ≡ some u → Ends judge o limit t (more u))
      → (x : Option Term) → step o t ≡ x → Ends judge o limit t (by_step t more x)
  ends-by_step more h none e = ends_finished zero-le stay_so e
  ends-by_step more h (some u) e = h u e

  pub run_ends : (limit : ℕ) (t : Term) → Ends judge o limit t (run judge o limit t)
  unfolding run
  run_ends zero t = ends-by_step _ (λ u e. ends_unfinished stay_so e) (step o t) refl
  run_ends (suc limit) t = ends-by_step _ (λ u e. ends-judged e (run_ends limit u) (judge u) refl) (step o t) refl

  -- and what the steps say, a run answers
  run-finishes : {n : ℕ} {t u : Term} (limit : ℕ) → n ≤ limit → Accepted judge o n t u → step o u ≡ none
      → run judge o limit t ≡ finished n u
  unfolding run
  run-finishes zero h stay_so k = rw k
  run-finishes (suc limit) h stay_so k = rw k
  run-finishes zero h (go_on e a s) k = absurd (omega arith)
  run-finishes (suc limit) h (go_on e a s) k = rw (e, a) (ap counted (run-finishes limit (omega arith) s k))

  run-leaves : {t u v : Term} (limit : ℕ) → Accepted judge o limit t u → step o u ≡ some v
      → run judge o limit t ≡ unfinished limit u
  unfolding run
  run-leaves zero stay_so k = rw k
  run-leaves (suc limit) (go_on e a s) k = rw (e, a) (ap counted (run-leaves limit s k))

  run-refuses : {n : ℕ} {t u v : Term} {x : Refusal} (limit : ℕ) → n < limit → Accepted judge o n t u
      → step o u ≡ some v → judge v ≡ some x
      → run judge o limit t ≡ refused_after n x
  unfolding run
  run-refuses zero h s k j = absurd (omega arith)
  run-refuses (suc limit) h stay_so k j = rw (k, j)
  run-refuses (suc limit) h (go_on e a s) k j = rw (e, a) (ap counted (run-refuses limit (omega arith) s k j))

  pub ends-run : {limit : ℕ} {t : Term} {r : Run Term} → Ends judge o limit t r → run judge o limit t ≡ r
  ends-run {limit} (ends_finished h s k) = run-finishes limit h s k
  ends-run {limit} (ends_unfinished s k) = run-leaves limit s k
  ends-run {limit} (ends_refused h s k j) = run-refuses limit h s k j
