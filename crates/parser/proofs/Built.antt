-- What building gives, return by return, and what its calls ask.
use Prim.Native.Nat.{ℕ, ◌+◌, ◌*◌, ◌≤◌, ◌<◌, max}
use mathlib.Core.Path.{◌≡◌}
use mathlib.Core.List.{List}
use mathlib.Core.Option.{some}
use native.Mathlib.Omega.{arith}
use lib.ListN.{length}
use Rattle.calculus.specs.Term.{Term, var, lam, app}
use Rattle.calculus.specs.Bounds.{most_nodes, most_height, most_text}
use Rattle.nodes.specs.Packing.{nodes_in, height_in}
use Rattle.nodes.specs.Store.{Holds, Same, word}
use Rattle.nodes.proofs.Keeping.{same_refl, same_then, says}
use Rattle.parser.specs.States.{State, reading, beside, under}
use Rattle.parser.specs.Building.{Means, nothing, term, empty, Roomy, Enclosable, Joinable, Applicable, Adds}
use Rattle.parser.specs.Building.{Makes, Encloses, Applies, Joins, Extends, JoinsUnder}
use Rattle.parser.specs.declared.building.Found.{Found}
use Rattle.parser.specs.declared.building.Built.{Built}
use Rattle.parser.specs.declared.building.Part.{Part}
use Rattle.parser.specs.declared.building.Part.TheVariants as part
use Rattle.parser.proofs.Meaning.{counted, height-few, means-grows, means-kept, means-variable}
use Rattle.parser.proofs.Meaning.{means-abstraction, means-application}

-- one node was counted, and made where it may be within the bounds
abbrev one_more : (tall used next : ℕ) → Built
one_more tall used next = record { part = counted tall used; used = next }

abbrev nothing_there : ℕ → Built
nothing_there used = record { part = part.Empty; used = used }

adds_one : {xs ys : List ℕ} {used tall next : ℕ} → next ≡ used + 1 → Same xs ys used
    → Adds xs ys used 1 (one_more tall used next)
adds_one one same = record { same = same; grows = omega arith; most_added = omega arith }

adds_none : (xs : List ℕ) (used : ℕ) {p : Part} → Adds xs xs used 1 (record { part = p; used = used })
adds_none xs used = record { same = same_refl xs used; grows = omega arith; most_added = omega arith }

module _ {xs ys : List ℕ} {most used tall next : ℕ} (one : next ≡ used + 1) (same : Same xs ys used) where
  pub makes : (index : ℕ) → tall ≡ 1 → (used < most → Holds ys (var index) used)
      → Makes xs most used index ys (one_more tall used next)
  makes index low made = record {
    adds = adds_one one same;
    means = rw (one, low) (means-variable ys most used index made);
  }

  pub encloses : {body : Part} (found : Found) → body ≡ part.Term found → tall ≡ found.height + 1
      → (used < most → tall ≤ most_height → (t : Term) → Holds xs t found.node → Holds ys (lam t) used)
      → Encloses xs most (record { part = body; used = used }) ys (one_more tall used next)
  encloses found is e make = record {
    adds = adds_one one same;
    means = λ base st m. rw one (means-abstraction e make (rw is at m));
  }

  pub applies : (left right : Found) → tall ≡ max left.height right.height + 1
      → (used < most → tall ≤ most_height → (t u : Term) → Holds xs t left.node → Holds xs u right.node
      → Holds ys (app t u) used)
      → Applies xs most used left right ys (one_more tall used next)
  applies left right e make = record {
    adds = adds_one one same;
    means = λ base mid st inner m m'. rw one (means-application e make m m');
  }

-- NOTHING IS BUILT
module _ {xs : List ℕ} {most used : ℕ} where
  encloses-nothing : {base : ℕ} {st : State} → Means xs most base used part.Nothing st
      → Means xs most base used part.Empty (under st)
  encloses-nothing (nothing e) = empty (omega arith)

  encloses-empty : {base : ℕ} {st : State} → Means xs most base used part.Empty st
      → Means xs most base used part.Empty (under st)
  encloses-empty (empty g) = empty g

  pub no_body : {body : Part} → body ≡ part.Nothing
      → Encloses xs most (record { part = body; used = used }) xs (nothing_there used)
  no_body is = record { adds = adds_none xs used; means = λ base st m. encloses-nothing (rw is at m) }

  pub empty-body : {body : Part} → body ≡ part.Empty
      → Encloses xs most (record { part = body; used = used }) xs (nothing_there used)
  empty-body is = record { adds = adds_none xs used; means = λ base st m. encloses-empty (rw is at m) }

  joins-nothing : {base mid : ℕ} {inner : State} (st : State) → base ≤ mid → Means xs most mid used part.Nothing inner
      → Means xs most base used part.Empty (beside st inner)
  joins-nothing st h (nothing e) = empty (omega arith)

  joins-empty : {base mid : ℕ} {inner : State} (st : State) → base ≤ mid → Means xs most mid used part.Empty inner
      → Means xs most base used part.Empty (beside st inner)
  joins-empty st h (empty g) = empty (omega arith)

  joins-first : {base mid : ℕ} {found : Found} {st inner : State} → Means xs most base mid part.Nothing st
      → Means xs most mid used (part.Term found) inner → Means xs most base used (part.Term found) (beside st inner)
  joins-first (nothing e) (term h n below built) = term h (omega arith) below built

  joins-void : {base mid : ℕ} {found : Found} {st inner : State} → Means xs most base mid part.Empty st
      → Means xs most mid used (part.Term found) inner → Means xs most base used part.Empty (beside st inner)
  joins-void (empty g) (term h n below built) = empty (omega arith)

module _ {xs : List ℕ} {most : ℕ} {read item : Built} where
  pub no_item : item.part ≡ part.Nothing → Joins xs most read item xs (nothing_there item.used)
  no_item is = record {
    adds = adds_none xs item.used;
    means = λ base st inner m m'. joins-nothing st (means-grows m) (rw is at m');
  }

  pub empty_item : item.part ≡ part.Empty → Joins xs most read item xs (nothing_there item.used)
  empty_item is = record {
    adds = adds_none xs item.used;
    means = λ base st inner m m'. joins-empty st (means-grows m) (rw is at m');
  }

  module _ (found : Found) (e : item.part ≡ part.Term found) where
    pub first_item : read.part ≡ part.Nothing
        → Joins xs most read item xs item
    first_item is = record {
      adds = adds_none xs item.used;
      means = λ base st inner m m'. rw e (joins-first (rw is at m) (rw e at m'));
    }

    pub after-empty : read.part ≡ part.Empty → Joins xs most read item xs (nothing_there item.used)
    after-empty is = record {
      adds = adds_none xs item.used;
      means = λ base st inner m m'. joins-void (rw is at m) (rw e at m');
    }

    pub both_terms : {ys : List ℕ} {r : Built} (left : Found) → read.part ≡ part.Term left
        → Applies xs most item.used left found ys r → Joins xs most read item ys r
    both_terms left is applies = record {
      adds = applies.adds;
      means = λ base st inner m m'. applies.means base read.used st inner (rw is at m) (rw e at m');
    }

    pub can-join : (left : Found) → read.part ≡ part.Term left → Joinable xs most read item
        → Applicable xs most item.used left found
    can-join left is both = record {
      base = both.base;
      mid = read.used;
      state = both.state;
      inner = both.inner;
      means = rw is at both.means;
      next = rw e at both.next;
    }

-- WHAT CALLS ASK
-- a part that is within the bounds is a node whose numbers are small
pub record Small (xs : List ℕ) (used : ℕ) (found : Found) : Type 0 where
  pub below : found.node < used
  pub nodes_few : nodes_in (word xs found.node) < 65536
  pub height_low : height_in (word xs found.node) < 1023

small : {xs : List ℕ} {most base used : ℕ} {found : Found} {st : State} → most ≤ most_nodes → used < most
    → found.height ≤ most_height → Means xs most base used (part.Term found) st → Small xs used found
small {xs} {found = found} in_bounds few low (term {t} h n below built) =
    let there = says xs t found.node (built (omega arith) (omega arith)) in
    record {
      below = below;
      nodes_few = omega (arith, there.nodes_are);
      height_low = omega (arith, there.height_is);
    }

-- heights are far from the greatest number
pub body-height : {xs : List ℕ} {most : ℕ} {body : Built} (found : Found) → body.part ≡ part.Term found
    → Enclosable xs most body → found.height ≤ body.used
body-height found is there = height-few (rw is at there.means)

pub left-height : {xs : List ℕ} {most used : ℕ} {left right : Found} → Applicable xs most used left right
    → left.height ≤ used
left-height both = omega (arith, height-few both.means, means-grows both.next)

pub right-height : {xs : List ℕ} {most used : ℕ} {left right : Found} → Applicable xs most used left right
    → right.height ≤ used
right-height both = height-few both.next

module _ {xs : List ℕ} {most used : ℕ} (roomy : Roomy xs most used) (few : used < most) where
  pub can_enclose : {body : Part} (found : Found) → body ≡ part.Term found
      → Enclosable xs most (record { part = body; used = used })
      → found.height + 1 ≤ most_height
      → (found.node < used) × (2 * used + 2 ≤ length xs) × (nodes_in (word xs found.node) < 262143)
      × (height_in (word xs found.node) < 1023)
  can_enclose found is there low =
      let its = small roomy.in_bounds few (omega arith) (rw is at there.means) in
      (its.below, omega (arith, roomy.room), omega (arith, its.nodes_few), its.height_low)

  pub can-apply : (left right : Found) → Applicable xs most used left right
      → max left.height right.height + 1 ≤ most_height
      → (left.node < used) × (right.node < used) × (used < 4294967296) × (2 * used + 2 ≤ length xs)
      × (nodes_in (word xs left.node) + nodes_in (word xs right.node) < 262143)
      × (max (height_in (word xs left.node)) (height_in (word xs right.node)) < 1023)
  can-apply left right both low =
      let grows = means-grows both.next in
      let first = small roomy.in_bounds (omega arith) (omega arith) both.means in
      let second = small roomy.in_bounds few (omega arith) both.next in
      let low_first = first.height_low in
      let low_second = second.height_low in (
        omega (arith, first.below),
        second.below,
        omega (arith, roomy.in_bounds),
        omega (arith, roomy.room),
        omega (arith, first.nodes_few, second.nodes_few),
        omega arith,
      )

same_less : {xs ys : List ℕ} {u v : ℕ} → u ≤ v → Same xs ys v → Same xs ys u
same_less h same = record { as_long = same.as_long; kept = λ k lt. same.kept k (omega arith) }

-- A VARIABLE, or an abstraction, and then joined
module _ {xs ys zs : List ℕ} {most : ℕ} {read v r : Built} (joins : Joins ys most read v zs r) where
  pub with_variable : (index : ℕ) → Makes xs most read.used index ys v → Extends xs most read index zs r
  with_variable index makes = record {
    adds = record {
      same = same_then makes.adds.grows makes.adds.same joins.adds.same;
      grows = omega (arith, makes.adds.grows, joins.adds.grows);
      most_added = omega (arith, makes.adds.most_added, joins.adds.most_added);
    };
    means = λ base st m. joins.means base st (reading (some (var index))) (means-kept makes.adds.same m)
        makes.means;
  }

  pub with_abstraction : {body : Built} → Encloses xs most body ys v → JoinsUnder xs most read body zs r
  with_abstraction encloses = record {
    adds = record {
      same = same_then encloses.adds.grows encloses.adds.same joins.adds.same;
      grows = omega (arith, encloses.adds.grows, joins.adds.grows);
      most_added = omega (arith, encloses.adds.most_added, joins.adds.most_added);
    };
    means = λ base st inner m m'.
        joins.means base st (under inner) (means-kept (same_less (means-grows m') encloses.adds.same) m)
        (encloses.means read.used inner m');
  }

-- what joining asks after them
still_roomy : {xs ys : List ℕ} {most used : ℕ} {v : Built} → Roomy xs most used → used ≤ 2 * most_text
    → Adds xs ys used 1 v → Roomy ys most v.used
still_roomy roomy few adds = record {
  in_bounds = roomy.in_bounds;
  room = omega (arith, roomy.room, adds.same.as_long);
  few = omega (arith, adds.most_added);
}

module _ {xs ys : List ℕ} {most : ℕ} {read : Built} where
  pub after-variable : Roomy xs most read.used → read.used ≤ 2 * most_text → Enclosable xs most read
      → {index : ℕ} {v : Built} → Makes xs most read.used index ys v
      → Roomy ys most v.used × Joinable ys most read v
  after-variable roomy few there makes = (
    still_roomy roomy few makes.adds,
    record {
      base = there.base;
      state = there.state;
      inner = _;
      means = means-kept makes.adds.same there.means;
      next = makes.means;
    },
  )

  pub after-abstraction : {body : Built} → Roomy xs most body.used → body.used ≤ 2 * most_text
      → Joinable xs most read body → {v : Built} → Encloses xs most body ys v
      → Roomy ys most v.used × Joinable ys most read v
  after-abstraction roomy few both encloses = (
    still_roomy roomy few encloses.adds,
    record {
      base = both.base;
      state = both.state;
      inner = under both.inner;
      means = means-kept (same_less (means-grows both.next) encloses.adds.same) both.means;
      next = encloses.means read.used both.inner both.next;
    },
  )
