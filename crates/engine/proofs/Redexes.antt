-- A contraction in its place: made, or why not; and a function part that is no abstraction.
use Prim.Native.Nat.{ℕ, ◌+◌, ◌*◌, ◌<◌}
use mathlib.Core.Path.{◌≡◌, sym, ◌∙◌, ap}
use mathlib.Core.Bool.{true, false}
use mathlib.Core.Logic.{inl, inr}
use mathlib.Core.Option.{some}
use mathlib.Core.List.{List}
use native.Mathlib.Omega.{arith}
use lib.ListN.{length}
use Rattle.calculus.specs.Term.{Term, app}
use Rattle.calculus.specs.Orders.{Order, step}
use Rattle.calculus.specs.Traits.{hybrid, NotLam}
use Rattle.calculus.specs.Substitution.{contract}
use Rattle.calculus.specs.Ends.{go_on, stay_so}
use Rattle.calculus.proofs.NextStep.{next-step, at_here, shape}
use Rattle.calculus.proofs.Running.{accepted_then}
use Rattle.nodes.specs.Node.{node_in}
use Rattle.nodes.specs.declared.Node.{Node}
use Rattle.nodes.specs.declared.Node.TheVariants.{Abstraction}
use Rattle.nodes.specs.Store.{Holds, Same, word, kind, link}
use Rattle.nodes.proofs.Keeping.{holds_kept, says, same_then}
use Rattle.nodes.proofs.Parts.{HeldAbstraction, held-abstraction, reads_abstraction}
use Rattle.engine.specs.Running.{Start, most, Stops, rested, stepped, spent, full, refuses, moved, Ran}
use Rattle.engine.specs.Judging.{tells_high, tells_many, tells_great}
use Rattle.engine.specs.Joining.{Together, together, apart, Parts, Here, Resting}
use Rattle.engine.specs.Contracting as contracting
use Rattle.engine.specs.Contracting.{Redex, most_of, Contracted, Makes, Why, made, not_made}
use Rattle.engine.specs.States.{State}
use Rattle.engine.specs.declared.Stop.{Stop}
use Rattle.engine.specs.declared.Stop.TheVariants.{Stepped, Full}
use Rattle.engine.proofs.Frames.{Neutral, rests-plain}
use Rattle.engine.proofs.Phases.{unused, Halts}

-- what is written behind the nodes that are used changes nothing
together-kept : {steps depth : ℕ} {a : Start} {left right used : ℕ} {room after : List ℕ} → a.node < used
    → Same room after used → Together steps depth a left right used room → Together steps depth a left right used after
together-kept {a = a} below same (together none_made left_is right_is used_is) =
    let link_same = same.kept (2 * a.node + 1) (omega arith) in
    together none_made (rw link_same left_is) (rw link_same right_is) used_is
together-kept below same (apart some-made space) = apart some-made (omega (arith, same.as_long))

parts-kept : {steps depth : ℕ} {a : Start} {l r : Term} {left right used : ℕ} {room after : List ℕ}
    → Parts steps depth a l r left right used room → Same room after used
    → Parts steps depth a l r left right used after
parts-kept {a = a} {l} {r} {left} {right} {used} was same =
    let below : a.node < used = omega (arith, was.begun, was.grows) in
    record {
      function = was.function;
      argument = was.argument;
      is = was.is;
      was = holds_kept a.term a.node same below was.was;
      begun = was.begun;
      holds_left = holds_kept l left same was.below_left was.holds_left;
      holds_right = holds_kept r right same was.below_right was.holds_right;
      below_left = was.below_left;
      below_right = was.below_right;
      grows = was.grows;
      inside = omega (arith, was.inside, same.as_long);
      small = omega (arith, was.small, same.as_long);
      low = was.low;
      few = was.few;
      kept = together-kept below same was.kept;
      same = same_then was.grows was.same same;
    }

-- HERE: the contraction of an abstraction
module _ {o : Order} {depth whole left right : ℕ} {a : Start} {l r : Term} {s : State} {room : List ℕ}
    (here : Here o depth a l r whole left right s room) where
  -- by the kind of the function part
  module _ {found : Node} (told : found ≡ node_in (word room left) (link room left)) where
    abbrev at_left-node : Holds room l left
    at_left-node = here.parted.parts.holds_left

    pub no-abstraction : ((n : ℕ) → found ≡ Abstraction n → ⊥) → NotLam l
    unfolding kind
    no-abstraction other =
        elim (shape l) [
          | inl (b, is) ↦
              (let two = (says room l left at_left-node).kind_is ∙ ap kind is in
              absurd (other _ (told ∙ reads_abstraction (word room left) (link room left) two)))
          | inr other ↦ other
        ]

    module _ {n : ℕ} (is : found ≡ Abstraction n) where
      abbrev function : HeldAbstraction room left n l
      function = held-abstraction room left told l at_left-node is

      redex : Redex function.body r depth s left right room
      redex =
          let parted = rw function.same at here.parted in
          record {
            holds = parted.parts.holds_left;
            holds_put = parted.parts.holds_right;
            below = parted.parts.below_left;
            below_put = parted.parts.below_right;
            inside = parted.parts.inside;
            small = parted.parts.small;
            deep = parted.deep;
            few = omega (arith, parted.size, parted.few);
          }

      pub contract_asks : (b : Term) × (c : Term) × Redex b c depth s left right room
      contract_asks = (function.body, r, redex)

      -- the step that it is
      contracts : step o (app l r) ≡ some (contract function.body r)
      contracts = next-step o (at_here here.stuck here.unless function.same)

      most-same : most_of function.body r s ≡ most a
      most-same = rw function.same at here.parted.size

      made-ran : {q : State} {after : List ℕ} → Makes function.body r depth s room q after → Ran o depth a q after
      made-ran makes =
          let parted = here.parted in
          record {
            term = contract function.body r;
            steps = parted.steps + 1;
            way = accepted_then parted.way (go_on contracts (rw most-same at makes.accepted) stay_so);
            stops = rw makes.stops stepped;
            count = omega (arith, makes.count, parted.count);
            size = makes.size ∙ most-same;
            deep = makes.deep;
            holds = makes.holds;
            below = makes.below;
            grows = omega (arith, parted.parts.grows, makes.grows);
            inside = omega (arith, makes.inside);
            kept = moved (omega arith) makes.inside;
            same = same_then parted.parts.grows parted.parts.same makes.same;
            turned = λ one. omega arith;
            filled = λ three zero. absurd (omega arith);
          }

      -- why it is not made is why the steps stop
      why-stops : {n : Stop} → Why function.body r depth s room n → Stops o depth (most a) s.budget (app l r) n
      why-stops (contracting.spent zero) = spent zero contracts
      why-stops (contracting.full left_over fits) = full
      why-stops (contracting.refuses left_over judged tells) =
          refuses left_over contracts (rw most-same at judged) tells

      why-not_one : {n : Stop} → Why function.body r depth s room n → n ≡ Stepped → ⊥
      why-not_one (contracting.spent zero) one = cc
      why-not_one (contracting.full left_over fits) one = cc
      why-not_one (contracting.refuses left_over judged tells_high) one = cc
      why-not_one (contracting.refuses left_over judged tells_many) one = cc
      why-not_one (contracting.refuses left_over judged tells_great) one = cc

      why-full : {n : Stop} → Why function.body r depth s room n → n ≡ Full → here.parted.steps ≡ 0
          → length a.room < 2 * (a.used + depth + most a)
      why-full (contracting.spent zero) is none_made = cc
      why-full (contracting.full left_over fits) is none_made =
          omega (arith, most-same, unused here.parted.parts.kept none_made, here.parted.parts.same.as_long)
      why-full (contracting.refuses left_over judged tells_high) is none_made = cc
      why-full (contracting.refuses left_over judged tells_many) is none_made = cc
      why-full (contracting.refuses left_over judged tells_great) is none_made = cc

      -- made, or not
      made_one : {q : State} {after : List ℕ} → Contracted function.body r depth s room q after → q.stop ≡ Stepped
          → Ran o depth a q after
      made_one (made makes) one = made-ran makes
      made_one (not_made why used budget spare is same) one = absurd (why-not_one why (sym is ∙ one))

      made_none : {q : State} {after : List ℕ} → Contracted function.body r depth s room q after
          → (q.stop ≡ Stepped → ⊥) → Halts o depth a l r left right q after
      made_none (made makes) other = absurd (other makes.stops)
      made_none (not_made why used budget spare is same) other =
          let was = here.parted in
          record {
            parted = record {
              steps = was.steps;
              way = was.way;
              count = omega (arith, was.count);
              size = omega (arith, was.size);
              few = was.few;
              deep = was.deep;
              parts = rw used (parts-kept was.parts same);
            };
            stops = rw (budget, is) (why-stops why);
            turned = λ one. absurd (other one);
            filled = λ three zero. why-full why (sym is ∙ three) zero;
          }

      module _ {q : State} {after : List ℕ}
          (contracted : (b c : Term) → Redex b c depth s left right room → Contracted b c depth s room q after) where
        pub contracted-ran : q.stop ≡ Stepped → Ran o depth a q after
        contracted-ran = made_one (contracted function.body r redex)

        pub contracted_halts : (q.stop ≡ Stepped → ⊥) → Halts o depth a l r left right q after
        contracted_halts = made_none (contracted function.body r redex)

  -- no abstraction: a hybrid order goes on, and others rest
  pub rest_asks : NotLam l → hybrid o ≡ true → Resting o depth a l r whole left right s room
  rest_asks other on = record {
    parted = here.parted;
    at_whole = here.at_whole;
    stuck = here.stuck;
    unless = here.unless;
    not_lam = other;
    is_hybrid = on;
  }

  pub plain_halts : NotLam l → hybrid o ≡ false → Halts o depth a l r left right s room
  plain_halts other off =
      let neutral : Neutral o l = record { stuck = here.stuck; not_lam = other } in
      let zero = here.at_rest in
      record {
        parted = here.parted;
        stops = rw zero (rested (rests-plain o r neutral here.unless off));
        turned = λ one. cc;
        filled = λ three none_made. cc;
      }
