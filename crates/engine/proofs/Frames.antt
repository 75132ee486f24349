-- A part in its place: steps of the part are steps of the whole, judged alike, and stop for the same reasons.
use Prim.Native.Nat.{ℕ, ◌+◌}
use mathlib.Core.Path.{◌≡◌, refl, ◌∙◌}
use mathlib.Core.Bool.{true, false}
use mathlib.Core.Option.{none, some}
use Rattle.calculus.specs.Term.{Term, lam, app, nodes}
use Rattle.calculus.specs.Orders.{Order, step, enters}
use Rattle.calculus.specs.Traits.{spine, eager, hybrid, late, NotLam}
use Rattle.calculus.specs.Ends.{Accepted, stay_so, go_on}
use Rattle.calculus.proofs.NextStep.{Stuck, Unless, at_body, no_body, next-body}
use Rattle.calculus.proofs.NextStep.{at_spine, at_early, at_left, at_late, nowhere, next-step}
use Rattle.calculus.proofs.Spines.{unless, stuck-var, keeps, late_lazy, plain-late}
use Rattle.nodes.specs.Store.{Normal, variable, abstraction, application}
use Rattle.engine.specs.Judging.{judge_at}
use Rattle.engine.specs.declared.Stop.{Stop}
use Rattle.engine.specs.declared.Stop.TheVariants.{Rested}
use Rattle.engine.specs.Running.{Stops, rested, stepped, spent, full, refuses}
use Rattle.engine.proofs.Parts.{Beside, judge-body, judge-left, judge-right}

-- a normal term has no step in any order
pub normal-stuck : (o : Order) {t : Term} → Normal t → step o t ≡ none
normal-stuck o (variable {i}) = stuck-var o i
normal-stuck o (abstraction n) = next-body o (no_body (λ _. normal-stuck o n))
normal-stuck o (application n l r) =
    let rests = normal-stuck o r in
    next-step o (nowhere (normal-stuck (spine o) l) (λ _. rests) n (λ _. normal-stuck o l) (λ _. rests))

-- the place f of a part, which steps by p while the whole steps by o; what is kept true of the part meanwhile
pub record Frame (o p : Order) (f : Term → Term) (I : Term → Type 0) (depth most inner fewer : ℕ) : Type 0 where
  pub goes : (t u : Term) → I t → step p t ≡ some u → (step o (f t) ≡ some (f u)) × I u
  pub judged : (t : Term) → judge_at depth most (f t) ≡ judge_at inner fewer t

-- nothing has to be kept true
pub data Always (t : Term) : Type 0 where
  always : Always t

-- the spine's order rests there, and it is no abstraction
pub record Neutral (o : Order) (t : Term) : Type 0 where
  pub stuck : step (spine o) t ≡ none
  pub not_lam : NotLam t

module _ {o p : Order} (f : Term → Term) {I : Term → Type 0} {depth most inner fewer : ℕ}
    (frame : Frame o p f I depth most inner fewer) where
  pub lifted : {n : ℕ} {t u : Term} → I t → Accepted (judge_at inner fewer) p n t u
      → Accepted (judge_at depth most) o n (f t) (f u) × I u
  lifted i stay_so = (stay_so, i)
  lifted i (go_on {t = t} {u = u} e a way) =
      let (g, j) = frame.goes t u i e in
      let (h, k) = lifted j way in
      (go_on g (frame.judged u ∙ a) h, k)

  -- why a part stops is why the whole does, given that it rests where the part does
  pub lifted_end : {budget : ℕ} {n : Stop} {u : Term} → I u → (n ≡ Rested → step o (f u) ≡ none)
      → Stops p inner fewer budget u n
      → Stops o depth most budget (f u) n
  lifted_end i last (rested k) = rested (last refl)
  lifted_end i last stepped = stepped
  lifted_end {u} i last (spent {u = v} z e) = spent z (frame.goes u v i e).0
  lifted_end i last full = full
  lifted_end {u} i last (refuses {u = v} some_left e j tells) =
      refuses some_left (frame.goes u v i e).0 (frame.judged v ∙ j) tells

  -- and so where it doesn't rest
  pub lifted-stop : {budget : ℕ} {n : Stop} {u : Term} → I u → (n ≡ Rested → ⊥) → Stops p inner fewer budget u n
      → Stops o depth most budget (f u) n
  lifted-stop i going = lifted_end i (λ is. absurd (going is))

-- THE FIVE PLACES
module _ (o : Order) {depth most fewer : ℕ} where
  pub body-frame : enters o ≡ true → most ≡ fewer + 1 → Frame o o lam Always depth most (depth + 1) fewer
  body-frame e size = record {
    goes = λ t u i s. (next-body o (at_body e s), always);
    judged = judge-body depth fewer size;
  }

  pub spine-frame : (r : Term) → Beside depth r → most ≡ fewer + nodes r + 1
      → Frame o (spine o) (λ m. app m r) Always depth most (depth + 1) fewer
  spine-frame r beside size = record {
    goes = λ t u i s. (next-step o (at_spine s), always);
    judged = judge-left fewer r beside size;
  }

  pub early_frame : (l : Term) → Beside depth l → most ≡ fewer + nodes l + 1 → Stuck (spine o) l → eager o ≡ true
      → Frame o o (app l) Always depth most (depth + 1) fewer
  early_frame l beside size stuck e = record {
    goes = λ t u i s. (next-step o (at_early stuck e s), always);
    judged = judge-right fewer l beside size;
  }

  pub left-frame : (r : Term) → Beside depth r → most ≡ fewer + nodes r + 1 → Unless (eager o) (step o r)
      → hybrid o ≡ true
      → Frame o o (λ m. app m r) (Neutral o) depth most (depth + 1) fewer
  left-frame r beside size waits e = record {
    goes =
        λ t u i s.
        let (k, n) = keeps o t u i.stuck s in
        (next-step o (at_left i.stuck waits i.not_lam e s), record { stuck = k; not_lam = n i.not_lam });
    judged = judge-left fewer r beside size;
  }

  pub late-frame : (l : Term) → Beside depth l → most ≡ fewer + nodes l + 1 → Neutral o l → Stuck o l → late o ≡ true
      → Frame o o (app l) Always depth most (depth + 1) fewer
  late-frame l beside size neutral stuck e = record {
    goes =
        λ t u i s.
        let waits = unless (late_lazy o e) in
        (next-step o (at_late neutral.stuck waits neutral.not_lam (λ _. stuck) e s), always);
    judged = judge-right fewer l beside size;
  }

-- where no trait asks for more, nothing is left
pub rests-plain : (o : Order) {l : Term} (r : Term) → Neutral o l → Unless (eager o) (step o r) → hybrid o ≡ false
    → step o (app l r) ≡ none
rests-plain o r neutral waits e =
    next-step o (nowhere neutral.stuck waits neutral.not_lam (unless e) (unless (plain-late o e)))

pub rests-hybrid : (o : Order) {l : Term} (r : Term) → Neutral o l → Unless (eager o) (step o r) → Stuck o l
    → Unless (late o) (step o r)
    → step o (app l r) ≡ none
rests-hybrid o r neutral waits stuck later =
    next-step o (nowhere neutral.stuck waits neutral.not_lam (λ _. stuck) later)
