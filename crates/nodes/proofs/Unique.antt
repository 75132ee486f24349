-- ONE ANSWER: what these answers mean tells which they are, so any two with one meaning are the same.
use Prim.Native.Nat.{ℕ}
use mathlib.Core.Path.{◌≡◌, refl, sym, ap}
use Rattle.std.specs.Prelude.{Result, Ok, Err}
use Rattle.calculus.specs.Runs as calculus
use Rattle.term.specs.Answers.{told}
use Rattle.term.specs.declared.Refusal.{Refusal}
use Rattle.term.proofs.Unique.{refusal-from, refusal_back, one_by, one_told}
use Rattle.nodes.specs.Answers.{granting, ended, run_told}
use Rattle.nodes.specs.declared.runs.End.{End}
use Rattle.nodes.specs.declared.runs.End.TheVariants.{Finished, Unfinished}
use Rattle.nodes.specs.declared.runs.Run.{Run}
use Rattle.nodes.specs.declared.runs.Stopped.{Stopped}

pub one_grant : (cap output room : ℕ) {r q : Result ℕ Refusal} → told r ≡ granting cap output room
    → told q ≡ granting cap output room
    → r ≡ q
one_grant cap output room e k = one_told e k

abbrev run-from : calculus.Run ℕ → Result Run Stopped
run-from (calculus.finished steps length) = Ok (record { end = Finished; steps = steps; length = length })
run-from (calculus.unfinished steps length) = Ok (record { end = Unfinished; steps = steps; length = length })
run-from (calculus.refused_after steps why) = Err (record { steps = steps; why = refusal-from why })

run_back : (r : Result Run Stopped) → run-from (run_told r) ≡ r
unfolding run_told
run_back (Ok run) = ended_back run.end refl
  where
    ended_back : (end : End) → run.end ≡ end → run-from (ended end run.steps run.length) ≡ Ok run
    ended_back Finished is = ap (λ e. Ok (record { end = e; steps = run.steps; length = run.length })) (sym is)
    ended_back Unfinished is = ap (λ e. Ok (record { end = e; steps = run.steps; length = run.length })) (sym is)
run_back (Err stopped) = ap (λ why. Err (record { steps = stopped.steps; why = why })) (refusal_back stopped.why)

pub one_run : {r q : Result Run Stopped} {a : calculus.Run ℕ} → run_told r ≡ a → run_told q ≡ a → r ≡ q
one_run e k = one_by run_told run-from run_back e k
