-- FINISHED IS FINAL, OVER SCRIPTS: what the program answers to one text, by whatever orders and limits.
use Prim.Native.Nat.{ℕ, ◌≤◌}
use mathlib.Core.Path.{◌≡◌, refl, ap, sym, ◌∙◌}
use mathlib.Core.Bool.{Bool, true, false, cond}
use mathlib.Core.List.{List}
use native.Mathlib.Omega.{arith}
use Rattle.calculus.specs.Term.{Term}
use Rattle.calculus.specs.Bounds.{program_cap}
use Rattle.calculus.specs.Refusal.{Answer, given, refused, outside_bounds}
use Rattle.calculus.specs.Numbers.{numeral}
use Rattle.calculus.specs.Judging.{judge}
use Rattle.calculus.specs.Characters.{codes}
use Rattle.calculus.specs.Writing.{write_text}
use Rattle.calculus.specs.Orders.{Order}
use Rattle.calculus.specs.Runs.{finished, refused_after, run}
use Rattle.calculus.specs.Ends.{Ends, ends_finished}
use Rattle.calculus.specs.Reading.{Notation, read_text}
use Rattle.calculus.specs.Outcomes.{limit_allowed, run_on}
use Rattle.calculus.specs.Program.{job, report, comes_to, done}
use Rattle.calculus.proofs.Running.{run_ends, ends-run, accepted-steps}
use Rattle.finality.specs.Full.{Full}
use Rattle.finality.specs.Finished.{Finished}
use Rattle.finality.proofs.Final.{finished-agree}

module _ (n : Notation) (text : List ℕ) where
  -- the text is a term, from which the steps lead to one where none is left
  record Ended (o : Order) (limit k : ℕ) (t : Term) : Type 0 where
    from : Term
    read : read_text n program_cap text ≡ given from
    ends : Ends (judge program_cap) o limit from (finished k t)

  ended : (o : Order) (limit : ℕ) {k : ℕ} {t : Term} → comes_to (job o limit n text) ≡ finished k t → Ended o limit k t
  unfolding comes_to
  ended o limit {k} {t} e = by_limit (limit_allowed limit) (read_text n program_cap text) refl e
    where
      by_limit : (allowed : Bool) (x : Answer Term) → read_text n program_cap text ≡ x
          → cond allowed (run_on x (run (judge program_cap) o limit)) (refused_after 0 outside_bounds) ≡ finished k t
          → Ended o limit k t
      by_limit true (given u) r e =
          record { from = u; read = r; ends = rw e at (run_ends (judge program_cap) o limit u) }
      by_limit true (refused why) r e = let never : ◌≡◌ {A = ℕ} 0 1 = cc in absurd (omega arith)
      by_limit false x r e = let never : ◌≡◌ {A = ℕ} 0 1 = cc in absurd (omega arith)

  steps_of : {o : Order} {limit k : ℕ} {u t : Term} → Ends (judge program_cap) o limit u (finished k t)
      → Finished o k u t
  steps_of (ends_finished h s stuck) = record { reached = accepted-steps s; stuck = stuck }

  -- FIRST HALF: two scripts of one text that finish by NOR, HNO, APP or HAP have one term in their answers
  pub scripts_agree : {o p : Order} → Full o → Full p → (limit limit' : ℕ) {k k' : ℕ} {t u : Term}
      → comes_to (job o limit n text) ≡ finished k t → comes_to (job p limit' n text) ≡ finished k' u → t ≡ u
  scripts_agree {o} {p} full full' limit limit' e e' =
      let a = ended o limit e in
      let b = ended p limit' e' in
      let one : a.from ≡ b.from = cc in
      finished-agree full full' (rw one at (steps_of a.ends)) (steps_of b.ends)

  more : {o : Order} {limit limit' k : ℕ} {u t : Term} → limit ≤ limit'
      → Ends (judge program_cap) o limit u (finished k t) → Ends (judge program_cap) o limit' u (finished k t)
  more {k = k} h (ends_finished few s stuck) = ends_finished {n = k} (omega (arith, few)) s stuck

  -- SECOND HALF: a finished script marked again with a limit no smaller has the same answer, to the byte
  pub marked_again : (o : Order) {limit limit' k : ℕ} {t : Term} → limit ≤ limit' → limit_allowed limit' ≡ true
      → comes_to (job o limit n text) ≡ finished k t → done (job o limit' n text) ≡ done (job o limit n text)
  unfolding comes_to codes numeral write_text
  marked_again o {limit} {limit'} {k} {t} h allowed e =
      let a = ended o limit e in
      let again : comes_to (job o limit' n text) ≡ finished k t =
      rw (allowed, a.read) (ends-run (judge program_cap) o (more h a.ends)) in
      ap (report n) (again ∙ sym e)
