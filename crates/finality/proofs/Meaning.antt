-- The outcome of reduce, and of eta, is one that its steps allow; for reduce it is the only one.
use Prim.Native.Nat.{ℕ}
use mathlib.Core.Path.{◌≡◌, refl}
use mathlib.Core.Bool.{Bool, true, false, ◌&&◌}
use mathlib.Core.List.{List}
use Rattle.calculus.specs.Term.{Term}
use Rattle.calculus.specs.Refusal.{Answer, given, refused}
use Rattle.calculus.specs.Judging.{judge}
use Rattle.calculus.specs.Orders.{Order}
use Rattle.calculus.specs.Runs.{Run, finished, unfinished, refused_after, run}
use Rattle.calculus.specs.Eta.{eta}
use Rattle.calculus.specs.Ends.{Ends, EtaEnds}
use Rattle.calculus.specs.Outcomes.{Outcome, checked, cap_allowed, limit_allowed, suffice, stored_run, lent, run_on}
use Rattle.calculus.specs.Outcomes.{eta_of, reduced, reduce_of}
use Rattle.calculus.proofs.Running.{run_ends, ends-run}
use Rattle.calculus.proofs.EtaRuns.{eta-ends}
use Rattle.finality.specs.Meaning.{Runs, Answers, out_of_bounds, room_lacking, input_refused}
use Rattle.finality.specs.Meaning.{run_finished, run_unfinished, run_refused}

-- any way to run on terms, and what its ends mean
module _ (allowed : Bool) (cap : ℕ) (s out room : List ℕ) (End : Term → Run Term → Type 0) (go : Term → Run Term) where
  abbrev pub Means : Outcome (Run ℕ) → Type 0
  Means r = Answers allowed cap s out room End r.0 r.1 r.2

  abbrev left : (b c : Bool) → Run Term → Outcome (Run ℕ)
  left b c r = lent (refused_after 0) b c cap (stored_run r out) out room

  run-means : (r : Run Term) → Runs allowed cap s out room End r → Means (left true true r)
  run-means (finished n u) e = run_finished u e
  run-means (unfinished n u) e = run_unfinished u e
  run-means (refused_after n x) e = run_refused e

  -- an outcome means what the ends of the run say
  outcome-means : ((t : Term) → End t (go t)) → (b c : Bool) → allowed ≡ b → suffice cap out room ≡ c
      → (x : Answer Term) → checked cap s ≡ x → Means (left b c (run_on x go))
  outcome-means ends false c p q x e = out_of_bounds p
  outcome-means ends true false p q x e = room_lacking p q
  outcome-means ends true true p q (refused r) e = input_refused p q e
  outcome-means ends true true p q (given t) e =
      run-means (go t) (record { in_bounds = p; enough = q; from = t; input = e; ends = ends t })

  pub means : ((t : Term) → End t (go t)) → Means (left allowed (suffice cap out room) (run_on (checked cap s) go))
  means ends = outcome-means ends allowed (suffice cap out room) refl refl (checked cap s) refl

  -- and where an end can be but one, nothing else is an outcome
  module _ (one : (t : Term) (r : Run Term) → End t r → go t ≡ r) where
    run-left : {r : Run Term} → Runs allowed cap s out room End r
        → left allowed (suffice cap out room) (run_on (checked cap s) go) ≡ left true true r
    run-left {r} e = rw (e.in_bounds, e.enough, e.input, one e.from r e.ends)

    pub only : {x : Run ℕ} {w z : List ℕ} → Answers allowed cap s out room End x w z
        → left allowed (suffice cap out room) (run_on (checked cap s) go) ≡ (x, w, z)
    only (out_of_bounds p) = rw p
    only (room_lacking p q) = rw (p, q)
    only (input_refused p q e) = rw (p, q, e)
    only (run_finished u e) = run-left e
    only (run_unfinished u e) = run-left e
    only (run_refused e) = run-left e

-- what reduce and eta are asked for: limit, cap, input, output and work room
module _ (limit cap : ℕ) (s out room : List ℕ) where
  abbrev allowed : Bool
  allowed = cap_allowed cap && limit_allowed limit

  abbrev pub Reduces : Order → Run ℕ → List ℕ → List ℕ → Type 0
  Reduces o = Answers allowed cap s out room (Ends (judge cap) o limit)

  -- THE OUTCOME OF REDUCE means what the steps say, and only it does
  pub reduce-means : (o : Order) → let r = reduce_of o limit cap s out room in Reduces o r.0 r.1 r.2
  unfolding reduce_of reduced
  reduce-means o =
      means allowed cap s out room (Ends (judge cap) o limit) (run (judge cap) o limit) (run_ends (judge cap) o limit)

  pub means-reduce : (o : Order) {x : Run ℕ} {w z : List ℕ} → Reduces o x w z
      → reduce_of o limit cap s out room ≡ (x, w, z)
  unfolding reduce_of reduced
  means-reduce o =
      only allowed cap s out room (Ends (judge cap) o limit) (run (judge cap) o limit)
      (λ t r e. ends-run (judge cap) o e)

  -- THE OUTCOME OF ETA means what its steps say
  abbrev pub EtaReduces : Run ℕ → List ℕ → List ℕ → Type 0
  EtaReduces = Answers (cap_allowed cap) cap s out room (EtaEnds limit)

  pub eta-means : let r = eta_of limit cap s out room in EtaReduces r.0 r.1 r.2
  unfolding eta_of
  eta-means = means (cap_allowed cap) cap s out room (EtaEnds limit) (eta limit) (eta-ends limit)
