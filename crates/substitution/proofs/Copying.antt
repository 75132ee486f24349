-- A term made of new nodes and shared ones: what each of its nodes asks, and what it comes to.
use Prim.Native.Nat.{ℕ, ◌+◌, ◌*◌, ◌≤◌, ◌<◌, max}
use mathlib.Core.Path.{◌≡◌}
use mathlib.Core.List.{List}
use native.Mathlib.Omega.{arith}
use lib.ListN.{length}
use Rattle.calculus.specs.Term.{Term, var, lam, app, nodes, height, greatest_index}
use Rattle.calculus.specs.Bounds.{most_nodes, greatest_number}
use Rattle.calculus.proofs.Measures.{nodes_positive}
use Rattle.nodes.specs.Packing.{nodes_in, height_in}
use Rattle.nodes.specs.Store.{Holds, Same, word}
use Rattle.nodes.proofs.Keeping.{same_refl, same_then, holds_kept, says}
use Rattle.substitution.specs.Raising.{Made}

-- the term has room, and nodes can tell it
pub record Roomy (room : List ℕ) (used : ℕ) (t : Term) : Type 0 where
  pub some : 0 < used
  pub fits : 2 * (used + nodes t) ≤ length room
  pub few : used + nodes t ≤ 4 * most_nodes
  pub low : height t ≤ 1022
  pub small : greatest_index t ≤ greatest_number

-- the answer is the term; the nodes before are as they were
pub record Copied (t : Term) (before : List ℕ) (used : ℕ) (r : Made) (after : List ℕ) : Type 0 where
  pub holds : Holds after t r.node
  pub below : r.node < r.used
  pub grows : used ≤ r.used
  pub most : r.used ≤ used + nodes t
  pub same : Same before after used

module _ {room : List ℕ} {used : ℕ} where
  -- a node that was there
  pub shared : {t : Term} {node : ℕ} → node < used → Holds room t node
      → Copied t room used (record { node = node; used = used }) room
  shared below h = record {
    holds = h;
    below = below;
    grows = omega arith;
    most = omega arith;
    same = same_refl room used;
  }

  -- A VARIABLE
  pub one_fits : {t : Term} → Roomy room used t → 2 * used + 2 ≤ length room
  one_fits {t} roomy = omega (arith, roomy.fits, nodes_positive t)

  pub new_variable : {i next : ℕ} {after : List ℕ} → next ≡ used + 1 → Same room after used → Holds after (var i) used
      → Copied (var i) room used (record { node = used; used = next }) after
  unfolding nodes
  new_variable end same new = record {
    holds = new;
    below = omega arith;
    grows = omega arith;
    most = omega arith;
    same = same;
  }

  -- AN ABSTRACTION
  pub body-roomy : {b : Term} → Roomy room used (lam b) → Roomy room used b
  unfolding nodes height greatest_index
  body-roomy roomy = record {
    some = roomy.some;
    fits = omega (arith, roomy.fits);
    few = omega (arith, roomy.few);
    low = omega (arith, roomy.low);
    small = roomy.small;
  }

  module _ {b : Term} {body : Made} {mid : List ℕ} (copied : Copied b room used body mid) where
    pub abstraction_asks : Roomy room used (lam b) → (body.node < body.used) × (2 * body.used + 2 ≤ length mid)
        × (nodes_in (word mid body.node) < 262143) × (height_in (word mid body.node) < 1023)
    unfolding nodes height
    abstraction_asks roomy =
        let said = says mid b body.node copied.holds in (
          copied.below,
          omega (arith, roomy.fits, copied.most, copied.same.as_long),
          omega (arith, roomy.few, roomy.some, said.nodes_are),
          omega (arith, roomy.low, said.height_is),
        )

    pub new_abstraction : {next : ℕ} {after : List ℕ} → next ≡ body.used + 1 → Same mid after body.used
        → Holds after (lam b) body.used
        → Copied (lam b) room used (record { node = body.used; used = next }) after
    unfolding nodes
    new_abstraction end same new = record {
      holds = new;
      below = omega arith;
      grows = omega (arith, copied.grows);
      most = omega (arith, copied.most);
      same = same_then copied.grows copied.same same;
    }

  -- AN APPLICATION
  pub left-roomy : {l r : Term} → Roomy room used (app l r) → Roomy room used l
  unfolding nodes height greatest_index
  left-roomy roomy = record {
    some = roomy.some;
    fits = omega (arith, roomy.fits);
    few = omega (arith, roomy.few);
    low = omega (arith, roomy.low);
    small = omega (arith, roomy.small);
  }

  module _ {l : Term} {left : Made} {mid : List ℕ} (first : Copied l room used left mid) where
    pub right-roomy : {r : Term} → Roomy room used (app l r) → Roomy mid left.used r
    unfolding nodes height greatest_index
    right-roomy roomy = record {
      some = omega (arith, roomy.some, first.grows);
      fits = omega (arith, roomy.fits, first.most, first.same.as_long);
      few = omega (arith, roomy.few, first.most);
      low = omega (arith, roomy.low);
      small = omega (arith, roomy.small);
    }

    module _ {r : Term} {right : Made} {end : List ℕ} (second : Copied r mid left.used right end) where
      pub left-kept : Holds end l left.node
      left-kept = holds_kept l left.node second.same first.below first.holds

      pub application_asks : Roomy room used (app l r) → (left.node < right.used) × (right.node < right.used)
          × (right.used < 4294967296) × (2 * right.used + 2 ≤ length end)
          × (nodes_in (word end left.node) + nodes_in (word end right.node) < 262143)
          × (max (height_in (word end left.node)) (height_in (word end right.node)) < 1023)
      unfolding nodes height
      application_asks roomy =
          let told_left = says end l left.node left-kept in
          let told_right = says end r right.node second.holds in
          let most : right.used ≤ used + nodes l + nodes r = omega (arith, first.most, second.most) in (
            omega (arith, first.below, second.grows),
            second.below,
            omega (arith, roomy.few),
            omega (arith, roomy.fits, first.same.as_long, second.same.as_long),
            omega (arith, roomy.few, roomy.some, told_left.nodes_are, told_right.nodes_are),
            omega (arith, roomy.low, told_left.height_is, told_right.height_is),
          )

      pub new_application : {next : ℕ} {after : List ℕ} → next ≡ right.used + 1 → Same end after right.used
          → Holds after (app l r) right.used
          → Copied (app l r) room used (record { node = right.used; used = next }) after
      unfolding nodes
      new_application stop same new = record {
        holds = new;
        below = omega arith;
        grows = omega (arith, first.grows, second.grows);
        most = omega (arith, first.most, second.most);
        same = same_then first.grows first.same (same_then second.grows second.same same);
      }
