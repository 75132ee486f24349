-- FINISHED IS FINAL, over the outcomes of reduce on bytes, with whatever limits, caps and buffers.
use Prim.Native.Nat.{ℕ, ◌≤◌}
use mathlib.Core.Path.{◌≡◌, refl, ap, ap₂, sym, ◌∙◌}
use mathlib.Core.Bool.{true, ◌&&◌}
use mathlib.Core.List.{List}
use mathlib.Core.Option.{none}
use native.Mathlib.Omega.{arith}
use lib.ListN.{length, take}
use lib.Seq.{take-append_seam}
use Rattle.calculus.specs.Term.{Term}
use Rattle.calculus.specs.Refusal.{given}
use Rattle.calculus.specs.Bytes.{encode}
use Rattle.calculus.specs.Judging.{judge}
use Rattle.calculus.specs.Orders.{Order, step}
use Rattle.calculus.specs.Runs.{finished}
use Rattle.calculus.specs.Ends.{Steps, stay, go, Accepted, Ends, ends_finished}
use Rattle.calculus.specs.Outcomes.{checked, cap_allowed, limit_allowed, suffice, laid_over, cleared, reduce_of}
use Rattle.calculus.proofs.Running.{accepted-steps, accepted_by}
use Rattle.calculus.proofs.Judged.{judge_more, checked-given, checked_more}
use Rattle.finality.specs.Beta.{Beta, Many, done, next}
use Rattle.finality.specs.Full.{Full}
use Rattle.finality.specs.Finished.{Finished}
use Rattle.finality.specs.Meaning.{run_finished}
use Rattle.finality.proofs.Sound.{step-is-beta, stuck-normal}
use Rattle.finality.proofs.Confluence.{normal_unique}
use Rattle.finality.proofs.Meaning.{Reduces, reduce-means, means-reduce}

-- OVER TERMS: finished runs of one term in full orders end in one term
pub steps-many : {o : Order} {n : ℕ} {t u : Term} → Steps o n t u → Many Beta t u
steps-many stay = done
steps-many {o} (go e s) = next (step-is-beta o e) (steps-many s)

pub finished-agree : {o p : Order} → Full o → Full p → {m n : ℕ} {t u v : Term} → Finished o m t u → Finished p n t v
    → u ≡ v
finished-agree f g a b =
    normal_unique (steps-many a.reached) (λ _ s. stuck-normal f s a.stuck)
    (steps-many b.reached) (λ _ s. stuck-normal g s b.stuck)

-- what an outcome says that tells of a finished run
pub record SaysFinished (o : Order) (limit cap : ℕ) (s : List ℕ) (n size : ℕ) (left : List ℕ) : Type 0 where
  pub from : Term
  pub reached : Term
  pub input : checked cap s ≡ given from
  pub few : n ≤ limit
  pub steps : Accepted (judge cap) o n from reached
  pub stuck : step o reached ≡ none
  pub length_told : size ≡ length (encode reached)
  pub bytes_told : take size left ≡ encode reached

module _ (o : Order) (limit cap : ℕ) (s out room : List ℕ) where
  on_terms : {n size : ℕ} {left : List ℕ} (t u : Term) → checked cap s ≡ given t
      → Ends (judge cap) o limit t (finished n u) → size ≡ length (encode u) → take size left ≡ encode u
      → SaysFinished o limit cap s n size left
  on_terms t u c (ends_finished h p k) l b =
      record {
        from = t;
        reached = u;
        input = c;
        few = h;
        steps = p;
        stuck = k;
        length_told = l;
        bytes_told = b;
      }

  says : {n size : ℕ} {left z : List ℕ} → Reduces limit cap s out room o (finished n size) left z
      → SaysFinished o limit cap s n size left
  says (run_finished u e) = on_terms e.from u e.input e.ends refl (take-append_seam (encode u) _)

  pub says-finished : {n size : ℕ} → (reduce_of o limit cap s out room).0 ≡ finished n size
      → SaysFinished o limit cap s n size (reduce_of o limit cap s out room).1
  says-finished e = says (rw e at (reduce-means limit cap s out room o))

  pub finished-steps : {n size : ℕ} {left : List ℕ} (f : SaysFinished o limit cap s n size left)
      → Finished o n f.from f.reached
  finished-steps f = record { reached = accepted-steps f.steps; stuck = f.stuck }

-- FIRST HALF: NOR, HNO, APP and HAP never finish one input with different bytes
module _ (limit limit' cap cap' : ℕ) (s out out' room room' : List ℕ) where
  pub never_different : {o p : Order} → Full o → Full p → {m n size size' : ℕ}
      → (reduce_of o limit cap s out room).0 ≡ finished m size
      → (reduce_of p limit' cap' s out' room').0 ≡ finished n size'
      → (size ≡ size')
      × (take size (reduce_of o limit cap s out room).1 ≡ take size' (reduce_of p limit' cap' s out' room').1)
  never_different {o} {p} full full' e e' =
      let f = says-finished o limit cap s out room e in
      let g = says-finished p limit' cap' s out' room' e' in
      let (d, _, _) = checked-given s f.input in
      let (d', _, _) = checked-given s g.input in
      let one : f.from ≡ g.from = cc in
      let a = rw one at (finished-steps o limit cap s out room f) in
      let b = finished-steps p limit' cap' s out' room' g in
      let same : f.reached ≡ g.reached = finished-agree full full' a b in (
        f.length_told ∙ ap (λ t. length (encode t)) same ∙ sym g.length_told,
        f.bytes_told ∙ ap encode same ∙ sym g.bytes_told,
      )

  -- SECOND HALF: a finished run repeated with no less room and limit is the same, in answer and bytes
  pub repeated : (o : Order) {n size : ℕ} → limit ≤ limit' → cap ≤ cap'
      → cap_allowed cap' && limit_allowed limit' ≡ true → suffice cap' out' room' ≡ true
      → (reduce_of o limit cap s out room).0 ≡ finished n size
      → reduce_of o limit' cap' s out' room'
      ≡ (finished n size, laid_over (take size (reduce_of o limit cap s out room).1) out', cleared cap' room')
  repeated o {n} {size} h k allowed enough e = again (says-finished o limit cap s out room e)
    where
      again : {left : List ℕ} → SaysFinished o limit cap s n size left
          → reduce_of o limit' cap' s out' room'
          ≡ (finished n size, laid_over (take size left) out', cleared cap' room')
      again f =
          let few : n ≤ limit' = omega (arith, f.few) in
          means-reduce limit' cap' s out' room' o
          (run_finished f.reached
          (record {
            in_bounds = allowed;
            enough = enough;
            from = f.from;
            input = checked_more s k f.input;
            ends = ends_finished few (accepted_by (judge_more k) f.steps) f.stuck;
          }))
          ∙ ap₂ (λ (l : ℕ) (b : List ℕ). (finished n l, laid_over b out', cleared cap' room'))
          (sym f.length_told) (sym f.bytes_told)
