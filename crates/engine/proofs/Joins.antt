-- A node whose parts may have changed: the same node where they did not, and otherwise one that is made anew.
use Prim.Native.Nat.{ℕ, ◌+◌, ◌*◌, ◌/◌, ◌%◌, ◌≤◌, ◌<◌, max}
use mathlib.Core.Path.{◌≡◌, refl, sym, ap, ap₂, ◌∙◌}
use mathlib.Core.List.{List}
use native.Mathlib.Omega.{arith}
use lib.ListN.{length}
use Rattle.calculus.specs.Term.{Term, lam, app, nodes, height}
use Rattle.nodes.specs.Packing.{nodes_in, height_in}
use Rattle.nodes.specs.Store.{Holds, Same, word, link}
use Rattle.nodes.proofs.Keeping.{same_then, says}
use Rattle.nodes.proofs.Holding.{held_once}
use Rattle.engine.specs.Running.{Start, Kept, unmoved, moved}
use Rattle.engine.specs.Joining.{Body, Together, together, apart, Parts, Joined}
use Rattle.engine.specs.States.{State, renoded}

-- after a step, there is room for the node and those above
record Roomy (steps depth used long : ℕ) : Type 0 where
  pub some : 0 < steps
  pub space : 2 * (used + depth + 1) ≤ long

module _ {steps depth : ℕ} {a : Start} (s : State) {room : List ℕ} (t : Term) (grows : a.used ≤ s.used)
    (same : Same a.room room a.used) where
  -- the node as it was
  as_before : {whole : ℕ} → Holds room t a.node → a.node < a.used → 2 * s.used ≤ length room
      → Kept steps depth a.node a.used (renoded s a.node s.used) (length room)
      → whole ≡ a.node
      → Joined steps depth a t s (renoded s whole s.used) room
  as_before held begun inside kept is =
      rw is (record {
        holds = held;
        below = omega (arith, grows);
        grows = grows;
        inside = inside;
        kept = kept;
        same = same;
        budget_same = refl;
        spare_same = refl;
        stop_same = refl;
      })

  -- one more node
  anew : {next : ℕ} {after : List ℕ} → Roomy steps depth s.used (length room) → next ≡ s.used + 1
      → Same room after s.used → Holds after t s.used
      → Joined steps depth a t s (renoded s s.used next) after
  anew {next} {after} roomy next_is kept held = record {
    holds = held;
    below = omega (arith, next_is);
    grows = omega (arith, grows);
    inside = omega (arith, roomy.space, kept.as_long);
    kept = moved roomy.some (omega (arith, roomy.space, kept.as_long));
    same = same_then grows same kept;
    budget_same = refl;
    spare_same = refl;
    stop_same = refl;
  }

-- AN ABSTRACTION
module _ {steps depth : ℕ} {a : Start} {b : Term} {s : State} {room : List ℕ} (body : Body steps depth a b s room)
    {whole : ℕ} (whole_is : whole ≡ a.node) where
  -- the numbers of nodes are small
  pub body-low : (whole < 4294967296) × (s.used < 4294967296)
  body-low = (
    omega (arith, whole_is, body.begun, body.grows, body.inside, body.small),
    omega (arith, body.inside, body.small),
  )

  same_body : link room a.node ≡ s.node → lam b ≡ a.term
  unfolding Holds
  same_body here =
      let was : Holds room (lam body.first) a.node = rw body.is at body.was in
      let held : Holds room body.first s.node = rw here at was.2 in
      ap lam (held_once room s.node b body.first body.holds held) ∙ sym body.is

  still_kept : Kept steps depth a.node a.used (renoded s a.node s.used) (length room)
  still_kept = by body.kept
    where
      by : Kept steps (depth + 1) (link room a.node) a.used s (length room)
          → Kept steps depth a.node a.used (renoded s a.node s.used) (length room)
      by (unmoved none_made at_node used_is) = unmoved none_made refl used_is
      by (moved some space) = moved some (omega arith)

  pub body_unchanged : link room whole ≡ s.node → Joined steps depth a (lam b) s (renoded s whole s.used) room
  body_unchanged here =
      let same_term = same_body (rw whole_is at here) in
      as_before s (lam b) body.grows body.same (rw same_term body.was) body.begun body.inside still_kept
      whole_is

  module _ (changed : link room whole ≡ s.node → ⊥) where
    body-roomy : Roomy steps depth s.used (length room)
    body-roomy = by body.kept
      where
        by : Kept steps (depth + 1) (link room a.node) a.used s (length room)
            → Roomy steps depth s.used (length room)
        by (unmoved none_made at_node used_is) = absurd (changed (rw whole_is (sym at_node)))
        by (moved some space) = record { some = some; space = omega arith }

    pub abstraction_asks : (s.node < s.used) × (2 * s.used + 2 ≤ length room)
        × (nodes_in (word room s.node) < 262143) × (height_in (word room s.node) < 1023)
    unfolding nodes height
    abstraction_asks =
        let said = says room b s.node body.holds in (
          body.below,
          omega (arith, body-roomy.space),
          omega (arith, said.nodes_are, body.few),
          omega (arith, said.height_is, body.low),
        )

    pub body_changed : {next : ℕ} {after : List ℕ}
        → (next ≡ s.used + 1) × Same room after s.used
        × ((t : Term) → Holds room t s.node → Holds after (lam t) s.used)
        → Joined steps depth a (lam b) s (renoded s s.used next) after
    body_changed (next_is, kept, makes) =
        anew s (lam b) body.grows body.same body-roomy next_is kept (makes b body.holds)

-- AN APPLICATION
module _ {steps depth : ℕ} {a : Start} {l r : Term} {left right : ℕ} (s : State) {room : List ℕ}
    (parts : Parts steps depth a l r left right s.used room) {whole : ℕ} (whole_is : whole ≡ a.node)
    {both : ℕ} (both_are : both ≡ left + 4294967296 * right) where
  pub parts_low : (whole < 4294967296) × (s.used < 4294967296)
  parts_low = (
    omega (arith, whole_is, parts.begun, parts.grows, parts.inside, parts.small),
    omega (arith, parts.inside, parts.small),
  )

  same_parts : link room a.node ≡ both → app l r ≡ a.term
  unfolding Holds
  same_parts here =
      let was : Holds room (app parts.function parts.argument) a.node = rw parts.is at parts.was in
      let left_is : link room a.node % 4294967296 ≡ left =
      omega (arith, parts.below_left, parts.inside, parts.small) in
      let right_is : link room a.node / 4294967296 ≡ right =
      omega (arith, parts.below_left, parts.inside, parts.small) in
      let first = held_once room left l parts.function parts.holds_left (rw left_is at was.3) in
      let second = held_once room right r parts.argument parts.holds_right (rw right_is at was.4) in
      ap₂ app first second ∙ sym parts.is

  parts-kept : Kept steps depth a.node a.used (renoded s a.node s.used) (length room)
  parts-kept = by parts.kept
    where
      by : Together steps depth a left right s.used room
          → Kept steps depth a.node a.used (renoded s a.node s.used) (length room)
      by (together none_made left_is right_is used_is) = unmoved none_made refl used_is
      by (apart some space) = moved some (omega arith)

  pub parts_unchanged : link room whole ≡ both → Joined steps depth a (app l r) s (renoded s whole s.used) room
  parts_unchanged here =
      let same_term = same_parts (rw whole_is at here) in
      as_before s (app l r) parts.grows parts.same (rw same_term parts.was) parts.begun parts.inside
      parts-kept whole_is

  module _ (changed : link room whole ≡ both → ⊥) where
    parts-roomy : Roomy steps depth s.used (length room)
    parts-roomy = by parts.kept
      where
        by : Together steps depth a left right s.used room → Roomy steps depth s.used (length room)
        by (together none_made left_is right_is used_is) = absurd (changed (rw whole_is (omega arith)))
        by (apart some space) = record { some = some; space = space }

    pub application_asks : (left < s.used) × (right < s.used) × (s.used < 4294967296)
        × (2 * s.used + 2 ≤ length room) × (nodes_in (word room left) + nodes_in (word room right) < 262143)
        × (max (height_in (word room left)) (height_in (word room right)) < 1023)
    unfolding nodes height
    application_asks =
        let said_left = says room l left parts.holds_left in
        let said_right = says room r right parts.holds_right in (
          parts.below_left,
          parts.below_right,
          omega (arith, parts.inside, parts.small),
          omega (arith, parts-roomy.space),
          omega (arith, said_left.nodes_are, said_right.nodes_are, parts.few),
          omega (arith, said_left.height_is, said_right.height_is, parts.low),
        )

    pub parts_changed : {next : ℕ} {after : List ℕ}
        → (next ≡ s.used + 1) × Same room after s.used
        × ((t u : Term) → Holds room t left → Holds room u right → Holds after (app t u) s.used)
        → Joined steps depth a (app l r) s (renoded s s.used next) after
    parts_changed (next_is, kept, makes) =
        anew s (app l r) parts.grows parts.same parts-roomy next_is kept
        (makes l r parts.holds_left parts.holds_right)
