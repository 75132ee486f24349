-- What is left at the end of the text: 8, 7 and 9 of what was read, and its bytes.
use Prim.Native.Nat.{ℕ, ◌≤◌, ◌<◌}
use mathlib.Core.Path.{◌≡◌, refl, ap₂, ◌∙◌}
use mathlib.Core.List.{List}
use native.Mathlib.Omega.{arith}
use native.Mathlib.Nat.{zero-add}
use lib.ListN.{length}
use borrow.Author.Tests.{le-leb, lt-leb}
use Rattle.calculus.specs.Term.{nodes, height}
use Rattle.calculus.specs.Bounds.{most_height}
use Rattle.calculus.specs.Bytes.{encode}
use Rattle.calculus.specs.Refusal.{given}
use Rattle.calculus.specs.Judging.{within}
use Rattle.calculus.specs.Grammar.{parsed}
use Rattle.calculus.proofs.Putting.{laid}
use Rattle.calculus.proofs.Sizes.{length-encode, nine_per_node}
use Rattle.term.specs.declared.Refusal.TheVariants.{TooHigh, TooManyNodes, EmptyExpression}
use Rattle.nodes.specs.Coded as nodes
use Rattle.nodes.specs.Lending.{Lent}
use Rattle.std.specs.Prelude.{Ok, Err}
use Rattle.parser.specs.States.{State}
use Rattle.parser.specs.Building.{Means, nothing, term, empty}
use Rattle.parser.specs.Parsing.{Stores, Storable, Saves, at_the_end}
use Rattle.parser.specs.declared.building.Found.{Found}
use Rattle.parser.specs.declared.building.Built.{Built}
use Rattle.parser.specs.declared.building.Part.TheVariants as part

-- by what it stands for: 8, 7, 9, or its bytes
module _ {store : List ℕ} {most used : ℕ} {out : List ℕ} where
  pub nothing_read : {st : State} → Means store most 0 used part.Nothing st
      → Stores (at_the_end most st) out (Err EmptyExpression) out
  unfolding parsed
  nothing_read (nothing e) = refl

  pub empty-read : {st : State} → Means store most 0 used part.Empty st
      → Stores (at_the_end most st) out (Err EmptyExpression) out
  unfolding parsed
  empty-read (empty g) = refl

  pub too_high-read : {found : Found} {st : State} → most_height < found.height
      → Means store most 0 used (part.Term found) st
      → Stores (at_the_end most st) out (Err TooHigh) out
  unfolding parsed within
  too_high-read high (term {t} h n below built) = rw (lt-leb (height t) most_height (omega arith))

  module _ {found : Found} (low : found.height ≤ most_height) where
    pub too_many-read : {st : State} → most < used → Means store most 0 used (part.Term found) st
        → Stores (at_the_end most st) out (Err TooManyNodes) out
    unfolding parsed within
    too_many-read many (term {t} h n below built) =
        rw (le-leb (height t) most_height (omega arith), lt-leb (nodes t) most (omega arith))

    module _ (few : used ≤ most) (lent : Lent most out store) where
      pub savable : {st : State} → Means store most 0 used (part.Term found) st → nodes.Savable store found.node out 0
      savable (term {t} h n below built) = record {
        term = t;
        holds = built few (omega arith);
        inside = omega (arith, lent.room);
        fits = omega (arith, nine_per_node t, lent.output);
      }

      pub stored_there : {after : List ℕ} {to : ℕ} {st : State} → nodes.Saves store found.node out 0 to after
          → Means store most 0 used (part.Term found) st → Stores (at_the_end most st) out (Ok to) after
      unfolding parsed within
      stored_there saved (term {t} h n below built) =
          let put = saved.saved t (built few (omega arith)) in
          let fits : length (encode t) ≤ length out = omega (arith, length-encode t, nine_per_node t, lent.output) in
          rw (le-leb (height t) most_height (omega arith), le-leb (nodes t) most (omega arith))
          (ap₂ (λ a b. (given a, b)) (put.reached ∙ zero-add (length (encode t)))
          (put.stored ∙ laid (encode t) out fits))

-- by its part
module _ {store : List ℕ} {most : ℕ} {read : Built} {out : List ℕ} where
  -- 8
  pub saves-nothing : read.part ≡ part.Nothing → Saves store most read out (Err EmptyExpression) out
  saves-nothing is = record { saves = λ st m. nothing_read (rw is at m) }

  pub saves-empty : read.part ≡ part.Empty → Saves store most read out (Err EmptyExpression) out
  saves-empty is = record { saves = λ st m. empty-read (rw is at m) }

  module _ (found : Found) (is : read.part ≡ part.Term found) where
    -- 7
    pub saves-too_high : most_height < found.height → Saves store most read out (Err TooHigh) out
    saves-too_high high = record { saves = λ st m. too_high-read high (rw is at m) }

    module _ (low : found.height ≤ most_height) where
      -- 9
      pub saves_too_many : most < read.used → Saves store most read out (Err TooManyNodes) out
      saves_too_many many = record { saves = λ st m. too_many-read low many (rw is at m) }

      module _ (few : read.used ≤ most) (there : Storable store most read out) where
        pub can-save : nodes.Savable store found.node out 0
        can-save = savable low few there.lent (rw is at there.means)

        pub saves-term : {after : List ℕ} {to : ℕ} → nodes.Saves store found.node out 0 to after
            → Saves store most read out (Ok to) after
        saves-term saved = record { saves = λ st m. stored_there low few there.lent saved (rw is at m) }

-- the laws by which `save` is proved
pub ruleset saving = (nothing_read, empty-read, too_high-read, too_many-read, savable, saves-term)
