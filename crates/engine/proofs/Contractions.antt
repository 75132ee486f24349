-- A contraction in its place: why it is not made, what making it asks, and what is told once it is made.
use Prim.Native.Nat.{ℕ, ◌+◌, ◌-◌, ◌≤◌, ◌<◌}
use mathlib.Core.Path.{◌≡◌, refl, ap}
use mathlib.Core.List.{List}
use native.Mathlib.Omega.{arith}
use Rattle.calculus.specs.Term.{Term, nodes, height, greatest_index}
use Rattle.calculus.specs.Bounds.{most_height, greatest_number}
use Rattle.calculus.specs.Substitution.{contract}
use Rattle.nodes.specs.Store.{Same}
use Rattle.substitution.specs.Placing.{Placeable, Places}
use Rattle.substitution.specs.Raising.{Made}
use Rattle.substitution.proofs.Counting.{within}
use Rattle.engine.specs.Judging.{tells_high, tells_many}
use Rattle.engine.specs.Contracting.{Contractible, Assured, most_of}
use Rattle.engine.specs.Contracting.{Why, refuses, Contracted, made, not_made}
use Rattle.engine.specs.States.{State, told, halted, advanced}
use Rattle.engine.specs.declared.At.{At}
use Rattle.engine.specs.declared.Work.{Work}
use Rattle.engine.specs.declared.Stop.{Stop}
use Rattle.engine.specs.declared.Stop.TheVariants.{TooHigh, TooManyNodes}
use Rattle.engine.proofs.Parts.{accepts_part, refused_high, refused-many}

-- what is told of equal answers
pub told_of : {p q : At} {work : Work} → p ≡ q → told p work ≡ told q work
told_of {work = work} e = ap (λ x. told x work) e

-- it is not made, and what was there is kept
pub stays : {b a : Term} {depth : ℕ} {s r : State} {room after : List ℕ} {stop : Stop} → Why b a depth s room stop
    → r ≡ halted s stop → Same room after s.used
    → Contracted b a depth s room r after
stays why is same = rw is (not_made why refl refl refl refl same)

module _ {b a : Term} {depth most : ℕ} {s : State} {body argument : ℕ} {room : List ℕ}
    (can : Contractible b a depth most s body argument room)
    (index_small : greatest_index (contract b a) ≤ greatest_number)
    {r : State} {after : List ℕ} (same : Same room after s.used) where
  pub at_high : most_height < depth + height (contract b a) → r ≡ halted s TooHigh → Contracted b a depth s room r after
  at_high high is =
      stays
      (refuses can.left (refused_high depth (most_of b a s) (contract b a) index_small high) tells_high) is same

  pub at_many : depth + height (contract b a) ≤ most_height → most < nodes (contract b a) → r ≡ halted s TooManyNodes
      → Contracted b a depth s room r after
  at_many low many is =
      let over : most_of b a s < nodes (contract b a) = omega (arith, can.most_is) in
      stays
      (refuses can.left (refused-many depth (most_of b a s) (contract b a) index_small low over) tells_many) is
      same

module _ {b a : Term} {depth most : ℕ} {s : State} {body argument : ℕ} {room : List ℕ}
    (sure : Assured b a depth most s body argument room) where
  pub put_asks : Placeable room s.used body 0 argument
  unfolding height
  put_asks =
      let can = sure.can in
      record {
        term = b;
        put_term = a;
        holds = can.holds;
        holds_put = can.holds_put;
        below = can.below;
        below_put = can.below_put;
        fits = omega (arith, sure.space);
        few = omega (arith, sure.space, can.small);
        deep = omega (arith, can.deep);
        low = omega (arith, (within 0 a b).low, can.deep);
        small = sure.index_small;
      }

  -- the number of its node is small
  pub made-low : {put : Made} {after : List ℕ} → Places room s.used body 0 argument put after
      → put.node < 4294967296
  made-low places =
      let can = sure.can in
      omega (arith, places.below, places.most b a can.holds can.holds_put, sure.space, can.small)

  pub at_made : {put : Made} {after : List ℕ} → Places room s.used body 0 argument put after
      → depth + height (contract b a) ≤ most_height → {size : ℕ} → size ≡ nodes (contract b a) → size ≤ most
      → {r : State} → r ≡ advanced s put.node put.used (most - size)
      → Contracted b a depth s room r after
  at_made {put} places low {size} count few is =
      let can = sure.can in
      let fewest = places.most b a can.holds can.holds_put in
      let few_part : nodes (contract b a) ≤ most_of b a s = omega (arith, can.most_is) in
      rw is (made {r = advanced s put.node put.used (most - size)} (record {
        stops = refl;
        accepted = accepts_part depth (most_of b a s) (contract b a) sure.index_small low few_part;
        holds = places.placed b a can.holds can.holds_put;
        below = places.below;
        grows = places.grows;
        inside = omega (arith, sure.space, places.same.as_long);
        deep = low;
        size = omega (arith, can.most_is);
        count = omega (arith, can.left);
        same = places.same;
      }))
