-- A walk that makes a copy of a node's term, changed at its variables: what it asks at each kind, and what it comes to.
use Prim.Native.Nat.{ℕ, ◌+◌, ◌*◌, ◌≤◌, ◌<◌, max}
use mathlib.Core.Path.{◌≡◌, ap, ◌∙◌}
use mathlib.Core.List.{List}
use native.Mathlib.Omega.{arith}
use lib.ListN.{length}
use Rattle.calculus.specs.Term.{Term, lam, app, height}
use Rattle.nodes.specs.Packing.{nodes_in, height_in}
use Rattle.nodes.specs.Store.{Holds, Same, word, link}
use Rattle.nodes.specs.Node.{node_in}
use Rattle.nodes.specs.declared.Node.{Node}
use Rattle.nodes.specs.declared.Node.TheVariants.{Abstraction, Application}
use Rattle.nodes.proofs.Keeping.{holds_kept}
use Rattle.nodes.proofs.Parts.{HeldAbstraction, HeldApplication, held-abstraction, held-application}
use Rattle.substitution.specs.Raising.{Made}
use Rattle.substitution.proofs.Copying.{Roomy, Copied, body-roomy, left-roomy, right-roomy}
use Rattle.substitution.proofs.Copying.{abstraction_asks, new_abstraction, application_asks, new_application}

-- under so many abstractions, the copy of a term is made of the copies of its parts
pub record Walks (F : ℕ → Term → Term) : Type 0 where
  pub into_body : (d : ℕ) (b : Term) → F d (lam b) ≡ lam (F (d + 1) b)
  pub into_parts : (d : ℕ) (l r : Term) → F d (app l r) ≡ app (F d l) (F d r)

-- a node's term has room to be copied
pub record Copyable (F : ℕ → Term → Term) (room : List ℕ) (used node depth : ℕ) (t : Term) : Type 0 where
  pub holds : Holds room t node
  pub below : node < used
  pub deep : depth + height t ≤ 1022
  pub roomy : Roomy room used (F depth t)

module _ {F : ℕ → Term → Term} (walks : Walks F) {room : List ℕ} {used node depth : ℕ} {t : Term}
    (can : Copyable F room used node depth t) {found : Node}
    (told : found ≡ node_in (word room node) (link room node)) where
  -- AN ABSTRACTION
  module _ {b : ℕ} (is : found ≡ Abstraction b) where
    pub held-body : HeldAbstraction room node b t
    held-body = held-abstraction room node told t can.holds is

    pub body_is : F depth t ≡ lam (F (depth + 1) held-body.body)
    body_is = ap (F depth) held-body.same ∙ walks.into_body depth held-body.body

    pub body-can : Copyable F room used b (depth + 1) held-body.body
    unfolding height
    body-can = record {
      holds = held-body.held;
      below = omega (arith, held-body.below, can.below);
      deep = omega (arith, can.deep, ap height held-body.same);
      roomy = body-roomy (rw body_is at can.roomy);
    }

    module _ {body : Made} {mid : List ℕ} (copied : Copied (F (depth + 1) held-body.body) room used body mid) where
      pub lam_asks : (body.node < body.used) × (2 * body.used + 2 ≤ length mid)
          × (nodes_in (word mid body.node) < 262143) × (height_in (word mid body.node) < 1023)
      lam_asks = abstraction_asks copied (rw body_is at can.roomy)

      pub lam_copied : {next : ℕ} {after : List ℕ} → next ≡ body.used + 1 → Same mid after body.used
          → Holds after (lam (F (depth + 1) held-body.body)) body.used
          → Copied (F depth t) room used (record { node = body.used; used = next }) after
      lam_copied end same new = rw body_is (new_abstraction copied end same new)

  -- AN APPLICATION
  module _ {m n : ℕ} (is : found ≡ Application m n) where
    pub parts : HeldApplication room node m n t
    parts = held-application room node told t can.holds is

    pub parts_are : F depth t ≡ app (F depth parts.left) (F depth parts.right)
    parts_are = ap (F depth) parts.same ∙ walks.into_parts depth parts.left parts.right

    pub left-can : Copyable F room used m depth parts.left
    unfolding height
    left-can = record {
      holds = parts.left_held;
      below = omega (arith, parts.left_below, can.below);
      deep = omega (arith, can.deep, ap height parts.same);
      roomy = left-roomy (rw parts_are at can.roomy);
    }

    module _ {left : Made} {mid : List ℕ} (first : Copied (F depth parts.left) room used left mid) where
      pub right-can : Copyable F mid left.used n depth parts.right
      unfolding height
      right-can = record {
        holds =
            holds_kept parts.right n first.same (omega (arith, parts.right_below, can.below))
            parts.right_held;
        below = omega (arith, parts.right_below, can.below, first.grows);
        deep = omega (arith, can.deep, ap height parts.same);
        roomy = right-roomy first (rw parts_are at can.roomy);
      }

      module _ {right : Made} {end : List ℕ} (second : Copied (F depth parts.right) mid left.used right end) where
        pub app_asks : (left.node < right.used) × (right.node < right.used) × (right.used < 4294967296)
            × (2 * right.used + 2 ≤ length end)
            × (nodes_in (word end left.node) + nodes_in (word end right.node) < 262143)
            × (max (height_in (word end left.node)) (height_in (word end right.node)) < 1023)
        app_asks = application_asks first second (rw parts_are at can.roomy)

        pub app_copied : {next : ℕ} {after : List ℕ} → next ≡ right.used + 1 → Same end after right.used
            → Holds after (app (F depth parts.left) (F depth parts.right)) right.used
            → Copied (F depth t) room used (record { node = right.used; used = next }) after
        app_copied stop same new = rw parts_are (new_application first second stop same new)
