-- A contraction that is weighed before it is made: what the calls ask, and what each return tells.
use Prim.Native.Nat.{ℕ, ◌+◌, ◌/◌, ◌-◌, ◌≤◌, ◌<◌}
use mathlib.Core.Path.{◌≡◌, sym, ◌∙◌}
use mathlib.Core.Bool.{Bool, true, false, not}
use mathlib.Core.List.{List}
use native.Mathlib.Omega.{arith}
use lib.Dec.{leb}
use lib.ListN.{length}
use borrow.Author.Tests.{leb-true, leb-false}
use Rattle.calculus.specs.Term.{Term, lam, app, nodes, height, greatest_index}
use Rattle.calculus.specs.Bounds.{most_height, greatest_number}
use Rattle.calculus.specs.Substitution.{contract}
use Rattle.calculus.proofs.Tests.{flipped}
use Rattle.nodes.proofs.Keeping.{same_refl}
use Rattle.substitution.specs.Placing.{Placeable, Places}
use Rattle.substitution.specs.Weighing.{Weighable, Weighs}
use Rattle.substitution.specs.Raising.{Made}
use Rattle.substitution.specs.declared.weighing.Weight.{Weight}
use Rattle.substitution.proofs.Counting.{within}
use Rattle.engine.specs.Judging.{tells_great}
use Rattle.engine.specs.Contracting.{Contractible, Assured, most_of, full, refuses, Contracted}
use Rattle.engine.specs.States.{State, lent, told, halted, advanced}
use Rattle.engine.specs.declared.At.{At}
use Rattle.engine.specs.declared.Work.{Work}
use Rattle.engine.specs.declared.Stop.TheVariants.{Full, TooHigh, TooManyNodes, IndexTooGreat}
use Rattle.engine.proofs.Parts.{refused_great}
use Rattle.engine.proofs.Contractions as contractions
use Rattle.engine.proofs.Contractions.{told_of, stays, at_high, at_many}

module _ {b a : Term} {depth most : ℕ} {s : State} {body argument : ℕ} {room : List ℕ}
    (can : Contractible b a depth most s body argument room) where
  pub weigh_asks : Weighable room body argument
  unfolding nodes height
  weigh_asks = record {
    term = b;
    put_term = a;
    holds = can.holds;
    holds_put = can.holds_put;
    inside = omega (arith, can.below, can.inside);
    inside_put = omega (arith, can.below_put, can.inside);
    few = omega (arith, can.few, can.most_is);
    few_put = omega (arith, can.few, can.most_is);
    low = omega (arith, can.deep);
    low_put = omega (arith, can.deep);
  }

  module _ {weight : Weight} (weighs : Weighs room body argument weight) where
    tall : weight.height ≡ height (contract b a)
    tall = weighs.height_is b a can.holds can.holds_put

    count : weight.nodes ≡ nodes (contract b a)
    count = weighs.nodes_are b a can.holds can.holds_put

    -- no greater than the two heights together
    pub height_low : weight.height ≤ most_height + most_height
    unfolding height
    height_low = omega (arith, tall, (within 0 a b).low, can.deep)

    -- what 12 says
    tested : {over : Bool} → weight.bursts ≡ over → leb (greatest_index (contract b a)) greatest_number ≡ not over
    tested {over} e =
        flipped (leb (greatest_index (contract b a)) greatest_number) over
        (sym (weighs.bursts b a can.holds can.holds_put) ∙ e)

    pub at_great : {r : State} → weight.bursts ≡ true → r ≡ halted s IndexTooGreat → Contracted b a depth s room r room
    at_great over is =
        let great = leb-false (greatest_index (contract b a)) greatest_number (tested over) in
        stays (refuses can.left (refused_great depth (most_of b a s) (contract b a) great) tells_great) is
        (same_refl room s.used)

    module _ (small : weight.bursts ≡ false) where
      index_small : greatest_index (contract b a) ≤ greatest_number
      index_small = leb-true (greatest_index (contract b a)) greatest_number (tested small)

      pub at_height : {r : State} → most_height < depth + weight.height → r ≡ halted s TooHigh
          → Contracted b a depth s room r room
      at_height high is = at_high can index_small (same_refl room s.used) (omega (arith, tall)) is

      module _ (low : depth + weight.height ≤ most_height) where
        low_part : depth + height (contract b a) ≤ most_height
        low_part = omega (arith, tall)

        pub at_nodes : {r : State} → most < weight.nodes → r ≡ halted s TooManyNodes → Contracted b a depth s room r room
        at_nodes many is =
            at_many can index_small (same_refl room s.used) low_part (omega (arith, count)) is

        module _ (few : weight.nodes ≤ most) where
          pub at_full : {r : State} → length room / 2 < s.used + weight.nodes + depth → r ≡ halted s Full
              → Contracted b a depth s room r room
          at_full more is =
              stays (full can.left (omega (arith, can.most_is))) is (same_refl room s.used)

          module _ (space : s.used + weight.nodes + depth ≤ length room / 2) where
            assured : Assured b a depth most s body argument room
            assured = record { can = can; space = omega (arith, count); index_small = index_small }

            pub put_asks : Placeable room s.used body 0 argument
            put_asks = contractions.put_asks assured

            pub made-low : {put : Made} {after : List ℕ} → Places room s.used body 0 argument put after
                → put.node < 4294967296
            made-low = contractions.made-low assured

            pub at_made : {put : Made} {after : List ℕ} → Places room s.used body 0 argument put after → {r : State}
                → r ≡ advanced s put.node put.used (most - weight.nodes)
                → Contracted b a depth s room r after
            at_made places is = contractions.at_made assured places low_part count few is

-- the same of what is lent and told
module _ {b a : Term} {depth most : ℕ} {work : Work} {body argument : ℕ} {room : List ℕ} {weight : Weight}
    (can : Contractible b a depth most (lent work) body argument room)
    (weighs : Weighs room body argument weight) where
  pub great_told : {answer : At} → answer ≡ record { node = 0; stop = IndexTooGreat } → weight.bursts ≡ true
      → Contracted b a depth (lent work) room (told answer work) room
  great_told e over = at_great can weighs over (told_of e)

  pub high_told : {answer : At} → answer ≡ record { node = 0; stop = TooHigh } → weight.bursts ≡ false
      → most_height < depth + weight.height
      → Contracted b a depth (lent work) room (told answer work) room
  high_told e small high = at_height can weighs small high (told_of e)

  pub full_told : {answer : At} → answer ≡ record { node = 0; stop = Full } → weight.bursts ≡ false
      → depth + weight.height ≤ most_height → weight.nodes ≤ most
      → length room / 2 < work.used + weight.nodes + depth
      → Contracted b a depth (lent work) room (told answer work) room
  full_told e small low few more = at_full can weighs small low few more (told_of e)

-- a contraction is at most twice as high as its redex, which is not of height 0
pub at_most_doubled : (b a : Term)
    → (0 < height (app (lam b) a)) × (height (contract b a) ≤ height (app (lam b) a) + height (app (lam b) a))
unfolding height
at_most_doubled b a = (omega arith, omega (arith, (within 0 a b).low))

-- what closes the sum of the heights and the refusals of `contract_weighed`
pub ruleset weighings = (at_most_doubled, great_told, high_told, full_told)
