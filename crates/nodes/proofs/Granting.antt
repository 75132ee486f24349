-- What 1 and 2 say of a call that borrows an output and work room, and what the work after them comes to.
use Prim.Native.Nat.{ℕ, ◌*◌, ◌≤◌, ◌<◌}
use mathlib.Core.Path.{◌≡◌, refl, sym, ap, ap₂, ◌∙◌}
use mathlib.Core.Bool.{Bool, true, false}
use mathlib.Core.List.{List, ◌++◌}
use native.Mathlib.Omega.{arith}
use lib.Dec.{leb}
use lib.ListN.{length, take, drop, replicate, length-replicate}
use lib.Seq.{length-take-le, drop_at}
use borrow.Author.Tests.{le-leb, lt-leb, leb-true}
use Rattle.calculus.specs.Bounds.{most_nodes, output_per_node, room_per_node}
use Rattle.calculus.specs.Refusal as calculus
use Rattle.calculus.specs.Refusal.{Answer, given, refused, ◌then◌, kept_if, outside_bounds, too_little_room}
use Rattle.calculus.specs.Outcomes.{cap_allowed, suffice, cleared, lent}
use Rattle.calculus.proofs.Tests.{both, in_interval}
use Rattle.term.specs.Answers.{refusal_of, told}
use Rattle.term.specs.declared.Refusal.{Refusal}
use Rattle.term.specs.declared.Refusal.TheVariants.{OutsideBounds, TooLittleRoom}
use Rattle.nodes.specs.Answers.{granting}
use Rattle.nodes.specs.Lending.{Lent}
use Rattle.nodes.specs.Working.{Works}
use Rattle.std.specs.Prelude.{Result, Ok, Err}

-- what is lent may be lent on, whatever stands in the store by then
pub lent_on : {cap : ℕ} {out store mid : List ℕ} → Lent cap out store → length mid ≡ length store → Lent cap out mid
lent_on known long = record { in_bounds = known.in_bounds; output = known.output; room = long ∙ known.room }

-- THE CODE'S TESTS
module _ (cap output room : ℕ) where
  pub cap-zero : cap < 1 → told {A = ℕ} (Err OutsideBounds) ≡ granting cap output room
  unfolding granting
  cap-zero h = rw (lt-leb 1 cap h)

  pub cap-too_great : most_nodes < cap → told {A = ℕ} (Err OutsideBounds) ≡ granting cap output room
  unfolding granting
  cap-too_great h = rw (le-leb 1 cap (omega arith), lt-leb cap most_nodes h)

  module _ (some : 1 ≤ cap) (in_bounds : cap ≤ most_nodes) where
    pub output_too_little : output < output_per_node * cap
        → told {A = ℕ} (Err TooLittleRoom) ≡ granting cap output room
    unfolding granting
    output_too_little h =
        rw (le-leb 1 cap some, le-leb cap most_nodes in_bounds, lt-leb (output_per_node * cap) output h)

    module _ (enough : output_per_node * cap ≤ output) where
      pub room_too_little : room < room_per_node * cap
          → told {A = ℕ} (Err TooLittleRoom) ≡ granting cap output room
      unfolding granting
      room_too_little h =
          rw (
            le-leb 1 cap some,
            le-leb cap most_nodes in_bounds,
            le-leb (output_per_node * cap) output enough,
            lt-leb (room_per_node * cap) room h,
          )

      pub cap_granted : room_per_node * cap ≤ room → told {A = ℕ} (Ok cap) ≡ granting cap output room
      unfolding granting
      cap_granted h =
          rw (
            le-leb 1 cap some,
            le-leb cap most_nodes in_bounds,
            le-leb (output_per_node * cap) output enough,
            le-leb (room_per_node * cap) room h,
          )

-- what two tests, one after the other, refuse or let through
pub data Granting (cap : ℕ) : (in_bounds enough : Bool) → Answer ℕ → Type 0 where
  outside : {enough : Bool} → Granting cap false enough (refused outside_bounds)
  little : Granting cap true false (refused too_little_room)
  passed : Granting cap true true (given cap)

granting_by : (cap : ℕ) (in_bounds enough : Bool)
    → Granting cap in_bounds enough (kept_if in_bounds outside_bounds cap then kept_if enough too_little_room)
granting_by cap false enough = outside
granting_by cap true false = little
granting_by cap true true = passed

module _ (cap : ℕ) (out room : List ℕ) where
  by_tests : Granting cap (cap_allowed cap) (suffice cap out room) (granting cap (length out) (length room))
  unfolding granting
  by_tests = granting_by cap (cap_allowed cap) (suffice cap out room)

  -- 1 AND 2 change nothing
  module _ {A : Type 0} (refuse : calculus.Refusal → A) (done : A × List ℕ) where
    refused_by : {in_bounds enough : Bool} {a : Answer ℕ} {why : calculus.Refusal} → Granting cap in_bounds enough a
        → refused why ≡ a → (refuse why, out, room) ≡ lent refuse in_bounds enough cap done out room
    refused_by {why = why} outside e = let same : why ≡ outside_bounds = cc in rw same
    refused_by {why = why} little e = let same : why ≡ too_little_room = cc in rw same
    refused_by passed e = let never : ◌≡◌ {A = ℕ} 0 1 = cc in absurd (omega arith)

    pub not_granted : {g : Result ℕ Refusal} {why : Refusal} → told g ≡ granting cap (length out) (length room)
        → g ≡ Err why
        → (refuse (refusal_of why), out, room) ≡ lent refuse (cap_allowed cap) (suffice cap out room) cap done out room
    not_granted e is = refused_by by_tests (rw is at e)

  -- WHAT PASSES
  pub record Passed (most : ℕ) : Type 0 where
    pub same : most ≡ cap
    pub allowed : cap_allowed cap ≡ true
    pub suffices : suffice cap out room ≡ true

  pub granted : {g : Result ℕ Refusal} {most : ℕ} → told g ≡ granting cap (length out) (length room) → g ≡ Ok most
      → Passed most
  granted e is = passed_by by_tests refl refl (rw is at e)
    where
      passed_by : {in_bounds enough : Bool} {a : Answer ℕ} {most : ℕ} → Granting cap in_bounds enough a
          → cap_allowed cap ≡ in_bounds → suffice cap out room ≡ enough → given most ≡ a
          → Passed most
      passed_by outside b s e = let never : ◌≡◌ {A = ℕ} 0 1 = cc in absurd (omega arith)
      passed_by little b s e = let never : ◌≡◌ {A = ℕ} 0 1 = cc in absurd (omega arith)
      passed_by passed b s e = record { same = cc; allowed = b; suffices = s }

  module _ {most : ℕ} (passes : Passed most) where
    pub room_suffices : room_per_node * most ≤ length room
    room_suffices =
        let (_, enough) = both (leb (output_per_node * cap) (length out)) (leb (room_per_node * cap) (length room))
        passes.suffices in
        rw passes.same (leb-true (room_per_node * cap) (length room) enough)

    -- the room's first numbers are lent to the work
    pub first-lent : Lent most out (take (room_per_node * most) room)
    first-lent =
        let (_, most_cap) = in_interval 1 most_nodes cap passes.allowed in
        let (output, _) = both (leb (output_per_node * cap) (length out)) (leb (room_per_node * cap) (length room))
        passes.suffices in
        record {
          in_bounds = rw passes.same most_cap;
          output = rw passes.same (leb-true (output_per_node * cap) (length out) output);
          room = length-take-le (room_per_node * most) room room_suffices;
        }

    -- the room beyond them is as before, and so is the room once it is cleared
    cleared-again : (store' : List ℕ) → length store' ≡ room_per_node * most
        → cleared most (store' ++ drop (room_per_node * most) room) ≡ cleared most room
    cleared-again store' long =
        let zeros : List ℕ = replicate (room_per_node * most) 0 in
        let same : length store' ≡ length zeros = long ∙ sym
        (length-replicate {0} {A = ℕ} (room_per_node * most) 0) in
        ap (λ rest. zeros ++ rest)
        (drop_at store' (drop (room_per_node * most) room) (length zeros) same
        ∙ ap (λ k. drop k room) (sym (length-replicate {0} {A = ℕ} (room_per_node * most) 0)))

    -- THE WORK, after which the room is cleared
    pub answered : {A : Type 0} (refuse : calculus.Refusal → A) (done : ℕ → A × List ℕ) {answer : A}
        {after store' left : List ℕ}
        → Works (done most) (take (room_per_node * most) room) answer after store'
        → left ≡ cleared most (store' ++ drop (room_per_node * most) room)
        → (answer, after, left) ≡ lent refuse (cap_allowed cap) (suffice cap out room) cap (done cap) out room
    answered refuse done {store' = store'} works is =
        rw (passes.allowed, passes.suffices)
        (ap₂ (λ p left. (p.0, p.1, left)) (works.stores ∙ ap done passes.same)
        (is ∙ cleared-again store' (works.as_long ∙ first-lent.room) ∙ ap (λ c. cleared c room) passes.same))

pub ruleset granting_tests = (cap-zero, cap-too_great, output_too_little, room_too_little, cap_granted)
