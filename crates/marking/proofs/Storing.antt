-- What `parse` and `reduce` leave in a buffer of as many bytes as the program's cap asks for.
use Prim.Native.Nat.{ℕ, ◌*◌, ◌≤◌}
use mathlib.Core.Path.{◌≡◌, ap}
use mathlib.Core.Bool.{Bool, true}
use mathlib.Core.List.{List}
use native.Mathlib.Omega.{arith}
use lib.ListN.{length, take, drop, length-append}
use lib.Seq.{take-append_seam}
use borrow.Author.Tests.{le-leb}
use Rattle.calculus.specs.Term.{Term}
use Rattle.calculus.specs.Bounds.{output_per_node, room_per_node, program_cap}
use Rattle.calculus.specs.Bytes.{encode}
use Rattle.calculus.specs.Refusal.{Refusal}
use Rattle.calculus.specs.Outcomes.{laid_over, suffice, lent}

-- NEITHER 1 NOR 2: the answer and the output are those of the work
pub suffices : (out room : List ℕ) → output_per_node * program_cap ≤ length out
    → room_per_node * program_cap ≤ length room
    → suffice program_cap out room ≡ true
suffices out room output work =
    rw (
      le-leb (output_per_node * program_cap) (length out) output,
      le-leb (room_per_node * program_cap) (length room) work,
    )

pub worked : {A : Type 0} (refuse : Refusal → A) {in_bounds enough : Bool} (cap : ℕ) (done : A × List ℕ)
    (out room : List ℕ) {answer : A} {after left : List ℕ} → in_bounds ≡ true → enough ≡ true
    → (answer, after, left) ≡ lent refuse in_bounds enough cap done out room
    → (answer, after) ≡ done
worked refuse cap done out room p q e = ap (λ x. (x.0, x.1)) (rw (p, q) at e)

-- THE BYTES OF A TERM stand first in a buffer, and so many are counted
pub record Stands (t : Term) (k : ℕ) (buffer : List ℕ) : Type 0 where
  pub inside : k ≤ length buffer
  pub bytes : take k buffer ≡ encode t

pub stands : (t : Term) {k : ℕ} (out : List ℕ) {after : List ℕ} → k ≡ length (encode t)
    → after ≡ laid_over (encode t) out
    → Stands t k after
stands t out counted laid =
    let rest : List ℕ = drop (length (encode t)) out in
    record {
      inside = omega (arith, ap length laid, length-append (encode t) rest);
      bytes = rw (counted, laid) (take-append_seam (encode t) rest);
    }
