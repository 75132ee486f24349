-- What a run leaves behind: the bytes of the term that it reached, or the refusal of its input.
use Prim.Native.Nat.{ℕ, ◌*◌, ◌≤◌}
use mathlib.Core.Path.{◌≡◌, ap₂, ◌∙◌}
use mathlib.Core.List.{List}
use native.Mathlib.Omega.{arith}
use native.Mathlib.Nat.{zero-add}
use lib.ListN.{length}
use Rattle.calculus.specs.Term.{Term, nodes}
use Rattle.calculus.specs.Bounds.{output_per_node}
use Rattle.calculus.specs.Bytes.{encode}
use Rattle.calculus.specs.Refusal.{refused}
use Rattle.calculus.specs.Runs as calculus
use Rattle.calculus.specs.Outcomes.{checked, run_on, stored_run, laid_over}
use Rattle.calculus.proofs.Putting.{Puts, laid}
use Rattle.calculus.proofs.Sizes.{length-encode, nine_per_node}
use Rattle.term.specs.Answers.{refusal_of}
use Rattle.term.specs.declared.Refusal.{Refusal}
use Rattle.nodes.specs.Answers.{ended, run_told}
use Rattle.nodes.specs.declared.runs.End.{End}
use Rattle.nodes.specs.declared.runs.End.TheVariants.{Finished, Unfinished}
use Rattle.nodes.specs.Working.{Works}
use Rattle.std.specs.Prelude.{Err}

-- however it ended
pub ends-stored : (cap : ℕ) {to : ℕ} {out after : List ℕ} (u : Term) → nodes u ≤ cap
    → output_per_node * cap ≤ length out → Puts out 0 (encode u) to after → (end : ℕ → calculus.Run ℕ)
    → ◌≡◌ {A = calculus.Run ℕ × List ℕ} (end to, after) (end (length (encode u)), laid_over (encode u) out)
ends-stored cap {out = out} u few enough written end =
    let fits : length (encode u) ≤ length out = omega (arith, length-encode u, nine_per_node u) in
    ap₂ (λ k bytes. (end k, bytes)) (written.reached ∙ zero-add (length (encode u)))
    (written.stored ∙ laid (encode u) out fits)

-- as the run's end has it
pub run-stored : (cap : ℕ) {to : ℕ} {out after : List ℕ} (u : Term) → nodes u ≤ cap
    → output_per_node * cap ≤ length out → Puts out 0 (encode u) to after → (end : End) (steps : ℕ)
    → ◌≡◌ {A = calculus.Run ℕ × List ℕ} (ended end steps to, after) (stored_run (ended end steps u) out)
run-stored cap {to} {out} {after} u few enough written end steps = by_end end
  where
    by_end : (end : End)
        → ◌≡◌ {A = calculus.Run ℕ × List ℕ} (ended end steps to, after) (stored_run (ended end steps u) out)
    by_end Finished = ends-stored cap u few enough written (calculus.finished steps)
    by_end Unfinished = ends-stored cap u few enough written (calculus.unfinished steps)

-- the input's refusal takes the place of all steps
pub input_refused : (cap : ℕ) (s : List ℕ) (go : Term → calculus.Run Term) (why : Refusal) {out store store' : List ℕ}
    → length store' ≡ length store → checked cap s ≡ refused (refusal_of why)
    → Works (stored_run (run_on (checked cap s) go) out) store (run_told (Err (record { steps = 0; why = why }))) out store'
unfolding run_told
input_refused cap s go why long e = record { stores = rw e; as_long = long }
