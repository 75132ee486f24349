-- What `reduce` answers: the input's refusals, how the steps end, and 1 and 2 before.
use Prim.Native.Nat.{ℕ}
use mathlib.Core.Path.{◌≡◌, refl, ◌∙◌}
use mathlib.Core.Bool.{true, false}
use mathlib.Core.List.{List}
use native.Mathlib.Omega.{arith}
use lib.ListN.{length}
use Rattle.calculus.specs.Term.{Term}
use Rattle.calculus.specs.Judging.{judge}
use Rattle.calculus.specs.Orders.{Order}
use Rattle.calculus.specs.Refusal.{refused}
use Rattle.calculus.specs.Runs as calculus
use Rattle.calculus.specs.Runs.{refused_after}
use Rattle.calculus.specs.Ends.{Ends}
use Rattle.calculus.specs.Outcomes.{checked, reduced, stored_run, lent, suffice, limit_allowed, cap_allowed, reduce_of}
use Rattle.calculus.proofs.Judged.{checked-given}
use Rattle.calculus.proofs.Running.{ends-run}
use Rattle.calculus.proofs.Sizes.{nine_per_node}
use Rattle.calculus.proofs.Tests.{and-false, and-true}
use Rattle.term.specs.Answers.{refusal_of}
use Rattle.term.specs.declared.Refusal.{Refusal}
use Rattle.term.specs.declared.Refusal.TheVariants.{OutsideBounds}
use Rattle.nodes.specs.Answers.{ended, run_told}
use Rattle.nodes.specs.Coded.{Savable, Saves}
use Rattle.nodes.specs.Lending.{Lent}
use Rattle.nodes.specs.Reading.{Taken}
use Rattle.nodes.specs.Working.{Works}
use Rattle.nodes.specs.declared.runs.Run.{Run}
use Rattle.nodes.specs.declared.runs.Stopped.{Stopped}
use Rattle.nodes.proofs.Ending.{run-stored, input_refused}
use Rattle.engine.specs.Stepping.{Steppable, Found, Reaches, comes, refuses, Steps}
use Rattle.engine.specs.declared.Reached.{Reached}
use Rattle.std.specs.Prelude.{Result, Ok, Err}

-- THE STEPS of a term that is the last of so many nodes
module _ {cap : ℕ} {store end : List ℕ} {t : Term} {o : Order} {limit : ℕ} {reached : Result Reached Stopped}
    (steps : Steps o t limit cap store reached end) where
  -- a term that is reached is saved
  module _ {out : List ℕ} (lent : Lent cap out store) {r : Reached} (is : reached ≡ Ok r) where
    come : (u : Term) × Ends (judge cap) o limit t (ended r.end r.steps u) × Found u cap r.node end
    come = read (rw is at steps.reaches)
      where
        read : Reaches o t limit cap end (Ok r)
            → (u : Term) × Ends (judge cap) o limit t (ended r.end r.steps u) × Found u cap r.node end
        read (comes {u = u} ends found) = (u, ends, found)

    pub save_asks : Savable end r.node out 0
    save_asks =
        let (u, ends, found) = come in
        record {
          term = u;
          holds = found.holds;
          inside = found.inside;
          fits = omega (arith, nine_per_node u, found.few, lent.output);
        }

    pub at_end : {to : ℕ} {after : List ℕ} → Saves end r.node out 0 to after
        → Works (stored_run (calculus.run (judge cap) o limit t) out) store
        (run_told (Ok (record { end = r.end; steps = r.steps; length = to }))) after end
    unfolding run_told
    at_end saves =
        let (u, ends, found) = come in
        record {
          stores = rw (ends-run (judge cap) o ends)
              (run-stored cap u found.few lent.output (saves.saved u found.holds) r.end r.steps);
          as_long = steps.as_long;
        }

  pub refused_told : (out : List ℕ) {r : Stopped} → reached ≡ Err r
      → (run_told (Err r), out) ≡ stored_run (calculus.run (judge cap) o limit t) out
  unfolding run_told
  refused_told out {r} is = rw (ends-run (judge cap) o refusal) refl
    where
      refusal : Ends (judge cap) o limit t (refused_after r.steps (refusal_of r.why))
      refusal = read (rw is at steps.reaches)
        where
          read : Reaches o t limit cap end (Err r) → Ends (judge cap) o limit t (refused_after r.steps (refusal_of r.why))
          read (refuses ends) = ends

  pub at_refused : {out : List ℕ} {r : Stopped} → reached ≡ Err r
      → Works (stored_run (calculus.run (judge cap) o limit t) out) store (run_told (Err r)) out end
  at_refused {out} is = record { stores = refused_told out is; as_long = steps.as_long }

-- what closes the goals of `step_on`
pub ruleset stepping = (save_asks, at_end, refused_told)

-- THE INPUT is the last node, and its steps are those of the whole call
module _ {cap used : ℕ} {s out store mid : List ℕ} (lent : Lent cap out store) (long : length mid ≡ length store)
    (taken : Taken cap s 0 used mid) where
  pub taken-steps : Steppable taken.input.term cap mid used
  taken-steps =
      let (_, low, few) = checked-given s taken.input.passes in
      let count = taken.count in
      record {
        in_bounds = lent.in_bounds;
        room = long ∙ lent.room;
        holds = taken.holds;
        used_are = omega arith;
        few = omega arith;
        low = low;
      }

  pub taken-reduced : (o : Order) (limit : ℕ) (r : Result Run Stopped) {after end : List ℕ}
      → ((t : Term) → Steppable t cap mid used → Works (stored_run (calculus.run (judge cap) o limit t) out) mid (run_told r) after end)
      → Works (stored_run (reduced o limit cap s) out) store (run_told r) after end
  unfolding reduced
  taken-reduced o limit r works =
      let done = works taken.input.term taken-steps in
      rw taken.input.passes (record { stores = done.stores; as_long = done.as_long ∙ long })

-- THE INPUT'S REFUSAL takes the place of all steps
pub input-stops : (o : Order) (limit cap : ℕ) (s : List ℕ) {out store store' : List ℕ} (why : Refusal)
    → length store' ≡ length store → checked cap s ≡ refused (refusal_of why)
    → Works (stored_run (reduced o limit cap s) out) store (run_told (Err (record { steps = 0; why = why }))) out store'
unfolding reduced
input-stops o limit cap s why long e = input_refused cap s (calculus.run (judge cap) o limit) why long e

-- 1 AND 2, and the work after them
module _ (o : Order) (limit cap : ℕ) (s out room : List ℕ) where
  pub limit-refused : limit_allowed limit ≡ false
      → (run_told (Err (record { steps = 0; why = OutsideBounds })), out, room) ≡ reduce_of o limit cap s out room
  unfolding reduce_of run_told
  limit-refused e = rw (e, and-false (cap_allowed cap))

  -- what is left where the limit is within its bounds
  pub in_limit : limit_allowed limit ≡ true
      → reduce_of o limit cap s out room
      ≡ lent (refused_after 0) (cap_allowed cap) (suffice cap out room) cap (stored_run (reduced o limit cap s) out) out room
  unfolding reduce_of
  in_limit e = rw (e, and-true (cap_allowed cap))
