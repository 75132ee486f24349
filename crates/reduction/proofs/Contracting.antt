-- The contraction of two nodes: 12, then 7, then 9, or its bytes.
use Prim.Native.Nat.{ℕ, ◌≤◌, ◌<◌}
use mathlib.Core.Path.{◌≡◌, refl, sym, ap₂, ◌∙◌}
use mathlib.Core.Bool.{Bool, true, false, not}
use mathlib.Core.List.{List}
use native.Mathlib.Omega.{arith}
use native.Mathlib.Nat.{zero-add}
use lib.Dec.{leb}
use lib.ListN.{length}
use borrow.Author.Tests.{le-leb, lt-leb, leb-true}
use Rattle.calculus.specs.Term.{Term, nodes, height, greatest_index}
use Rattle.calculus.specs.Bounds.{most_height, greatest_number}
use Rattle.calculus.specs.Refusal.{Answer, given, refused, ◌then◌}
use Rattle.calculus.specs.Bytes.{encode}
use Rattle.calculus.specs.Outcomes.{stored, coded}
use Rattle.calculus.specs.Judging.{within, next_within}
use Rattle.calculus.specs.Substitution.{contract}
use Rattle.calculus.proofs.Putting.{laid}
use Rattle.calculus.proofs.Sizes.{length-encode, nine_per_node}
use Rattle.calculus.proofs.Tests.{flipped}
use Rattle.term.specs.Answers.{refusal_of, told}
use Rattle.term.specs.declared.Refusal.{Refusal}
use Rattle.term.specs.declared.Refusal.TheVariants.{IndexTooGreat, TooHigh, TooManyNodes}
use Rattle.nodes.specs.Store.{Holds}
use Rattle.nodes.specs.Coded.{Savable, Saves}
use Rattle.substitution.specs.Placing.{Placeable, Places}
use Rattle.substitution.specs.Weighing.{Weighable, Weighs}
use Rattle.substitution.specs.Raising.{Made}
use Rattle.substitution.specs.declared.weighing.Weight.{Weight}
use Rattle.std.specs.Prelude.{Ok, Err}
use Rattle.nodes.specs.Working.{Works}
use Rattle.reduction.specs.Applying.{Contractible, Contracts}

-- a refusal takes the place of all that would follow
pub refuses_there : {answer : Answer Term} (why : Refusal) (out : List ℕ) {store store' : List ℕ}
    → length store' ≡ length store → answer ≡ refused (refusal_of why)
    → Works (stored (answer then coded) out) store (told {A = ℕ} (Err why)) out store'
refuses_there why out long is = record { stores = rw is; as_long = long }

-- WHAT A WEIGHT TELLS, whatever room was asked for
module _ {store : List ℕ} {body argument : ℕ} {weight : Weight} (weighs : Weighs store body argument weight) where
  -- 12, of whatever terms the two are
  weighed : (b a : Term) → Holds store b body → Holds store a argument → {over : Bool} → weight.bursts ≡ over
      → leb (greatest_index (contract b a)) greatest_number ≡ not over
  weighed b a h k {over} e =
      flipped (leb (greatest_index (contract b a)) greatest_number) over (sym (weighs.bursts b a h k) ∙ e)

  module _ {cap : ℕ} {out : List ℕ} where
    pub great_refused : weight.bursts ≡ true → Contracts cap store body argument out (Err IndexTooGreat) store out
    unfolding next_within
    great_refused over = record {
      contracts = λ b a h k. refuses_there IndexTooGreat out refl (rw (weighed b a h k over));
    }

    pub high_refused : weight.bursts ≡ false → most_height < weight.height
        → Contracts cap store body argument out (Err TooHigh) store out
    unfolding next_within within
    high_refused small high = record {
      contracts = λ b a h k.
          let tall = weighs.height_is b a h k in
          refuses_there TooHigh out refl
          (rw (weighed b a h k small, lt-leb (height (contract b a)) most_height (omega arith)));
    }

    pub many_refused : weight.bursts ≡ false → weight.height ≤ most_height → cap < weight.nodes
        → Contracts cap store body argument out (Err TooManyNodes) store out
    unfolding next_within within
    many_refused small low many = record {
      contracts = λ b a h k.
          let tall = weighs.height_is b a h k in
          let count = weighs.nodes_are b a h k in
          refuses_there TooManyNodes out refl
          (rw (
            weighed b a h k small,
            le-leb (height (contract b a)) most_height (omega arith),
            lt-leb (nodes (contract b a)) cap (omega arith),
          ));
    }

-- THE RESULT: 12, then 7, then 9
module _ {cap : ℕ} {store : List ℕ} {used body argument : ℕ} {out : List ℕ}
    (asked : Contractible cap store used body argument out) where
  pub weigh_asks : Weighable store body argument
  weigh_asks = record {
    term = asked.body_term;
    put_term = asked.put_term;
    holds = asked.holds;
    holds_put = asked.holds_put;
    inside = omega (arith, asked.lent.room);
    inside_put = omega (arith, asked.lent.room);
    few = omega (arith, asked.lent.in_bounds);
    few_put = omega (arith, asked.lent.in_bounds);
    low = omega arith;
    low_put = omega arith;
  }

  module _ {weight : Weight} (weighs : Weighs store body argument weight) where
    -- what 12 says of whatever terms the two are
    fine : (b a : Term) → Holds store b body → Holds store a argument → {over : Bool} → weight.bursts ≡ over
        → leb (greatest_index (contract b a)) greatest_number ≡ not over
    fine b a h k e = weighed weighs b a h k e

    pub at_overflow : weight.bursts ≡ true → Contracts cap store body argument out (Err IndexTooGreat) store out
    at_overflow over = great_refused weighs over

    module _ (small : weight.bursts ≡ false) where
      pub at_height : most_height < weight.height → Contracts cap store body argument out (Err TooHigh) store out
      at_height high = high_refused weighs small high

      module _ (low : weight.height ≤ most_height) where
        pub at_nodes : cap < weight.nodes → Contracts cap store body argument out (Err TooManyNodes) store out
        at_nodes many = many_refused weighs small low many

        module _ (few : weight.nodes ≤ cap) where
          pub put_asks : Placeable store used body 0 argument
          put_asks =
              let tall = weighs.height_is asked.body_term asked.put_term asked.holds asked.holds_put in
              let count = weighs.nodes_are asked.body_term asked.put_term asked.holds asked.holds_put in
              let index = leb-true (greatest_index (contract asked.body_term asked.put_term)) greatest_number
              (fine asked.body_term asked.put_term asked.holds asked.holds_put small) in
              record {
                term = asked.body_term;
                put_term = asked.put_term;
                holds = asked.holds;
                holds_put = asked.holds_put;
                below = asked.below;
                below_put = asked.below_put;
                fits = omega (arith, asked.lent.room, asked.few);
                few = omega (arith, asked.lent.in_bounds, asked.few);
                deep = omega (arith, asked.low);
                low = omega arith;
                small = index;
              }

          module _ {made : Made} {mid : List ℕ} (places : Places store used body 0 argument made mid) where
            pub save_asks : Savable mid made.node out 0
            save_asks =
                let term = contract asked.body_term asked.put_term in
                let count = weighs.nodes_are asked.body_term asked.put_term asked.holds asked.holds_put in
                let most = places.most asked.body_term asked.put_term asked.holds asked.holds_put in
                record {
                  term = term;
                  holds = places.placed asked.body_term asked.put_term asked.holds asked.holds_put;
                  inside = omega (arith, places.below, places.same.as_long, asked.lent.room, asked.few);
                  fits = omega (arith, nine_per_node term, asked.lent.output);
                }

            pub at_result : {to : ℕ} {after : List ℕ} → Saves mid made.node out 0 to after
                → Contracts cap store body argument out (Ok to) mid after
            unfolding next_within within
            at_result saves = record {
              contracts = λ b a h k.
                  let tall = weighs.height_is b a h k in
                  let count = weighs.nodes_are b a h k in
                  let put = saves.saved (contract b a) (places.placed b a h k) in
                  let fits : length (encode (contract b a)) ≤ length out =
                  omega (arith, length-encode (contract b a), nine_per_node (contract b a), asked.lent.output) in
                  record {
                    stores =
                        rw (
                          fine b a h k small,
                          le-leb (height (contract b a)) most_height (omega arith),
                          le-leb (nodes (contract b a)) cap (omega arith),
                        )
                        (ap₂ (λ n bytes. (given n, bytes)) (put.reached ∙ zero-add (length (encode (contract b a))))
                        (put.stored ∙ laid (encode (contract b a)) out fits));
                    as_long = places.same.as_long;
                  };
            }

-- what closes the goals of `contract` up to the bytes
pub ruleset contractions = (weigh_asks, great_refused, high_refused, many_refused, put_asks)
