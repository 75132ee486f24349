-- A contraction that is made at once: what its node says, and where it cannot go wrong.
use Prim.Native.Nat.{ℕ, suc, ◌+◌, ◌*◌, ◌/◌, ◌-◌, ◌≤◌, ◌<◌, compare, Ordering}
use mathlib.Core.Path.{◌≡◌, refl, sym, ◌∙◌}
use mathlib.Core.Bool.{false}
use mathlib.Core.List.{List}
use native.Mathlib.Omega.{arith}
use native.Mathlib.Nat.{mul-le-mul}
use native.Mathlib.Decide.{ℕ_discrete}
use lib.Dec.{leb}
use lib.ListN.{length}
use borrow.Author.Tests.{leb-true, not-false}
use Rattle.calculus.specs.Term.{Term, var, lam, app, nodes, height, greatest_index}
use Rattle.calculus.specs.Bounds.{most_nodes, most_height, greatest_number}
use Rattle.calculus.specs.Substitution.{contract, occurs, compared}
use Rattle.calculus.proofs.Growth.{nodes-put}
use Rattle.nodes.specs.Packing.{nodes_in, height_in, free_in}
use Rattle.nodes.specs.Store.{Holds, word, link, Says}
use Rattle.nodes.proofs.Keeping.{says, same_refl}
use Rattle.nodes.proofs.Holding.{indices_fit}
use Rattle.substitution.specs.Placing.{Places}
use Rattle.substitution.specs.Weighing.{deepest, Occurring, Bursts}
use Rattle.substitution.specs.Raising.{Made}
use Rattle.substitution.proofs.Overflowing.{at_known}
use Rattle.substitution.proofs.Bursting.{at_none, argument_asks, at_some}
use Rattle.engine.specs.Contracting.{Redex, Contractible, Assured, most_of, spent, Contracted}
use Rattle.engine.specs.States.{State, halted, advanced}
use Rattle.engine.specs.declared.Stop.TheVariants.{Spent, TooHigh, TooManyNodes}
use Rattle.engine.proofs.Contractions.{stays, at_high, at_many, at_made}
use Rattle.engine.proofs.Phases.{Fit}

-- ONCE IT IS MADE
module _ {b a : Term} {depth most : ℕ} {s : State} {body argument : ℕ} {room : List ℕ}
    (sure : Assured b a depth most s body argument room) {put : Made} {after : List ℕ}
    (places : Places room s.used body 0 argument put after) where
  said : Says (word after put.node) (contract b a)
  said = says after (contract b a) put.node (places.placed b a sure.can.holds sure.can.holds_put)

  -- the node is read
  pub node-inside : 2 * put.node + 2 ≤ length after
  node-inside =
      let fewest = places.most b a sure.can.holds sure.can.holds_put in
      omega (arith, places.below, sure.space, places.same.as_long)

  module _ {tall : ℕ} (tall_is : tall ≡ height_in (word after put.node)) where
    pub made_high : {r : State} → most_height < depth + tall → r ≡ halted s TooHigh → Contracted b a depth s room r after
    made_high high is =
        at_high sure.can sure.index_small places.same (omega (arith, said.height_is)) is

    module _ (low : depth + tall ≤ most_height) {size : ℕ} (size_is : size ≡ nodes_in (word after put.node)) where
      pub made-many : {r : State} → most < size → r ≡ halted s TooManyNodes → Contracted b a depth s room r after
      made-many many is =
          at_many sure.can sure.index_small places.same (omega (arith, said.height_is))
          (omega (arith, said.nodes_are)) is

      pub made-here : {r : State} → size ≤ most → r ≡ advanced s put.node put.used (most - size)
          → Contracted b a depth s room r after
      made-here few is =
          at_made sure places (omega (arith, said.height_is)) (size_is ∙ said.nodes_are) few is

-- HOW LARGE IT MAY BECOME
-- at most every second node, and one more, is the place of an argument
occurs-half : (d : ℕ) (t : Term) → 2 * occurs d t ≤ nodes t + 1
unfolding occurs nodes
occurs-half d (var i) = by (compare i (suc d))
  where
    by : (x : Ordering) → 2 * compared x 0 1 0 ≤ 1 + 1
    by Ordering.lt = omega arith
    by Ordering.eq = omega arith
    by Ordering.gt = omega arith
occurs-half d (lam b) = omega (arith, occurs-half (suc d) b)
occurs-half d (app l r) = omega (arith, occurs-half d l, occurs-half d r)

nodes-most : (b a : Term) → nodes (contract b a) ≤ nodes b + (nodes b + 1) / 2 * nodes a
nodes-most b a =
    let half : occurs 0 b ≤ (nodes b + 1) / 2 = omega (arith, occurs-half 0 b) in
    let same : nodes a ≤ nodes a = omega arith in
    let product : occurs 0 b * nodes a ≤ (nodes b + 1) / 2 * nodes a = mul-le-mul half same in
    omega (arith, nodes-put 0 a b)

-- WHERE IT IS MADE AT ONCE
module _ {b a : Term} {depth : ℕ} {s : State} {function argument : ℕ} {room : List ℕ}
    (redex : Redex b a depth s function argument room) where
  pub at_spent : {r : State} → s.budget ≡ 0 → r ≡ halted s Spent → Contracted b a depth s room r room
  at_spent none_left is = stays (spent none_left) is (same_refl room s.used)

  -- the abstraction's body, where its node says
  body-held : (link room function < function) × Holds room b (link room function)
  unfolding Holds
  body-held = (redex.holds.1, redex.holds.2)

  pub body-inside : 2 * link room function + 2 ≤ length room
  body-inside = omega (arith, body-held.0, redex.below, redex.inside)

  module _ {own each : ℕ} (own_are : own ≡ nodes_in (word room (link room function)))
      (each_are : each ≡ nodes_in (word room argument)) where
    own_nodes : own ≡ nodes b
    own_nodes = own_are ∙ (says room b (link room function) body-held.1).nodes_are

    each_nodes : each ≡ nodes a
    each_nodes = each_are ∙ (says room a argument redex.holds_put).nodes_are

    most_is : own + each + 2 + s.spare ≡ most_of b a s
    unfolding nodes
    most_is = omega (arith, own_nodes, each_nodes)

    most-small : own + each + 2 + s.spare ≤ most_nodes
    most-small = omega (arith, most_is, redex.few)

    -- what is counted together is a 64-bit number
    pub sum_small : s.used + (own + (own + 1) / 2 * each) + depth ≤ greatest_number
    sum_small =
        let half : (own + 1) / 2 ≤ most_nodes = omega (arith, most-small) in
        let few : each ≤ most_nodes = omega (arith, most-small) in
        let product : (own + 1) / 2 * each ≤ most_nodes * most_nodes = mul-le-mul half few in
        omega (arith, most-small, redex.inside, redex.small, redex.deep)

    module _ (left : s.budget ≡ 0 → ⊥) where
      pub contractible : Contractible b a depth (own + each + 2 + s.spare) s (link room function) argument room
      contractible = record {
        holds = body-held.1;
        holds_put = redex.holds_put;
        below = omega (arith, body-held.0, redex.below);
        below_put = redex.below_put;
        inside = redex.inside;
        small = redex.small;
        deep = redex.deep;
        few = most-small;
        most_is = most_is;
        left = omega (arith, left);
      }

      module _ (fit : Fit room) (known : free_in (word room argument) < 1023) where
        occurring : Occurring room argument (deepest 0 b)
        unfolding height
        occurring = record {
          term = b;
          put_term = a;
          holds_put = redex.holds_put;
          inside = omega (arith, redex.below_put, redex.inside);
          deepest_at = refl;
          low = omega (arith, redex.deep);
          low_put = omega (arith, redex.deep);
        }

        -- the argument's own indices are small, so that none grows too great
        no_burst : Bursts room argument (deepest 0 b) false
        no_burst =
            elim (ℕ_discrete (deepest 0 b) 0) [
              | yes nowhere ↦ at_none nowhere
              | no other ↦ at_some other (at_known (argument_asks other occurring) known)
            ]

        index_small : greatest_index (contract b a) ≤ greatest_number
        index_small =
            let own_small = indices_fit room (link room function) b fit body-held.1 in
            let told = no_burst.tells b a redex.holds_put refl own_small in
            leb-true _ _ (not-false (leb (greatest_index (contract b a)) greatest_number) (sym told))

        pub assured : s.used + (own + (own + 1) / 2 * each) + depth ≤ length room / 2
            → Assured b a depth (own + each + 2 + s.spare) s (link room function) argument room
        assured space =
            let bound : nodes (contract b a) ≤ own + (own + 1) / 2 * each =
            rw (own_nodes, each_nodes) (nodes-most b a) in
            record { can = contractible; space = omega arith; index_small = index_small }
