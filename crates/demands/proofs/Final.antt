-- FINISHED IS FINAL, of the outcomes of `reduce` itself.
use Prim.Native.Nat.{ℕ, ◌≤◌}
use mathlib.Core.Path.{◌≡◌, refl, sym, ap, ◌∙◌}
use mathlib.Core.Bool.{true, ◌&&◌}
use lib.ListN.{take}
use Rattle.calculus.specs.Runs.{finished}
use Rattle.calculus.specs.Outcomes.{cap_allowed, limit_allowed, suffice, laid_over, cleared, reduce_of}
use Rattle.finality.specs.Full.{Full}
use Rattle.finality.proofs.Final as definitions
use Rattle.nodes.specs.Answers.{run_told}
use Rattle.nodes.proofs.Unique.{one_run}
use Rattle.orders.specs.Orders.{order_of}
use Rattle.demands.specs.Calls.{Asked, Answered, finishes}

-- what a call promises that answers Finished
says : {a : Asked} {n size : ℕ} (r : Answered a) → r.run ≡ finishes n size
    → (reduce_of (order_of a.order) a.limit a.cap a.input a.out a.room).0 ≡ finished n size
unfolding run_told
says r is = sym (ap (λ x. x.0) r.promised) ∙ ap run_told is

leaves : {a : Asked} (r : Answered a)
    → r.after ≡ (reduce_of (order_of a.order) a.limit a.cap a.input a.out a.room).1
leaves r = ap (λ x. x.1) r.promised

-- FIRST HALF: NOR, HNO, APP and HAP never finish one input with different bytes, whatever limits, caps and buffers
pub never_different : {a b : Asked} → a.input ≡ b.input → Full (order_of a.order) → Full (order_of b.order)
    → (r : Answered a) (q : Answered b) {m n size size' : ℕ} → r.run ≡ finishes m size → q.run ≡ finishes n size'
    → (size ≡ size') × (take size r.after ≡ take size' q.after)
never_different {a} {b} one full full' r q {size = size} {size'} e e' =
    let (long, bytes) = definitions.never_different a.limit b.limit a.cap b.cap b.input a.out b.out
    a.room b.room full full' (rw one at (says r e)) (says q e') in
    (long, ap (take size) (rw one at (leaves r)) ∙ bytes ∙ sym (ap (take size') (leaves q)))

-- SECOND HALF: a finished run repeated with no less room and limit is the same, in answer and bytes
pub repeated : {a b : Asked} → a.input ≡ b.input → a.order ≡ b.order → a.limit ≤ b.limit → a.cap ≤ b.cap
    → cap_allowed b.cap && limit_allowed b.limit ≡ true → suffice b.cap b.out b.room ≡ true
    → (r : Answered a) (q : Answered b) {n size : ℕ} → r.run ≡ finishes n size
    → (q.run ≡ finishes n size) × (q.after ≡ laid_over (take size r.after) b.out)
    × (q.left ≡ cleared b.cap b.room)
unfolding run_told
repeated {a} {b} one order more larger allowed enough r q {size = size} e =
    let so = definitions.repeated a.limit b.limit a.cap b.cap b.input a.out b.out a.room
    b.room (order_of b.order) more larger allowed enough (rw (one, order) at (says r e)) in
    let all = q.promised ∙ so in
    let bytes = ap (take size) (rw (one, order) at (leaves r)) in (
      one_run (ap (λ x. x.0) all) refl,
      ap (λ x. x.1) all ∙ ap (λ bytes. laid_over bytes b.out) (sym bytes),
      ap (λ x. x.2) all,
    )
