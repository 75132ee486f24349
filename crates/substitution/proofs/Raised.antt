-- Raising a node's term: at each kind, what the calls ask and what they come to.
use Prim.Native.Nat.{ℕ, suc, ◌+◌, ◌*◌, ◌≤◌, ◌<◌}
use mathlib.Core.Path.{◌≡◌, refl, ap}
use mathlib.Core.List.{List}
use native.Mathlib.Omega.{arith}
use lib.ListN.{length, set}
use Rattle.calculus.specs.Term.{Term, var, greatest_index}
use Rattle.calculus.specs.Bounds.{greatest_number}
use Rattle.calculus.specs.Substitution.{raise}
use Rattle.calculus.proofs.Substituting.{raise-bound, raise_free}
use Rattle.calculus.proofs.Growth.{nodes-raise}
use Rattle.nodes.specs.Packing.{free_in}
use Rattle.nodes.specs.Store.{Says, Holds, Same, word, link}
use Rattle.nodes.specs.Node.{node_in}
use Rattle.nodes.specs.declared.Node.{Node}
use Rattle.nodes.specs.declared.Node.TheVariants.{Variable, Abstraction, Application}
use Rattle.nodes.proofs.Keeping.{says}
use Rattle.nodes.proofs.Making.{abstraction-made, application-made}
use Rattle.substitution.specs.Raising.{lifted, Raisable, Raises}
use Rattle.substitution.specs.Raising.{Made}
use Rattle.substitution.proofs.Lifting.{raise-nothing, raise_stays, height-raise, says-lifted}
use Rattle.nodes.proofs.Parts.{held-variable}
use Rattle.nodes.proofs.Holding.{held_once}
use Rattle.substitution.proofs.Copying.{Copied, shared, one_fits, new_variable, left-kept}
use Rattle.substitution.proofs.Walking.{Walks, Copyable, held-body, body_is, body-can, lam_asks, lam_copied}
use Rattle.substitution.proofs.Walking.{parts, parts_are, left-can, right-can, app_asks, app_copied}

raise_walks : (k : ℕ) → Walks (raise k)
unfolding raise
raise_walks k = record {
  into_body = λ d b. let one : d + 1 ≡ suc d = omega arith in rw one refl;
  into_parts = λ d l r. refl;
}

-- what a call asks, of a term that has room to be raised, and what it gives
pub raisable : {room : List ℕ} {used node amount depth : ℕ} (t : Term) → Copyable (raise amount) room used node depth t
    → amount ≤ 1022 → Raisable room used node amount depth
raisable {amount = k} {depth = d} t can little = record {
  term = t;
  holds = can.holds;
  below = can.below;
  fits = omega (arith, can.roomy.fits, nodes-raise k d t);
  few = omega (arith, can.roomy.few, nodes-raise k d t);
  deep = can.deep;
  small = can.roomy.small;
  little = little;
}

pub raises_copied : {room : List ℕ} {used node amount depth : ℕ} {r : Made} {after : List ℕ} (t : Term)
    → Holds room t node → Raises room used node amount depth r after → Copied (raise amount depth t) room used r after
raises_copied {amount = k} {depth = d} t h x = record {
  holds = x.raised t h;
  below = x.below;
  grows = x.grows;
  most = omega (arith, x.most t h, nodes-raise k d t);
  same = x.same;
}

module _ {room : List ℕ} {used node amount depth : ℕ} (asked : Raisable room used node amount depth) where
  walks : Walks (raise amount)
  walks = raise_walks amount

  can : Copyable (raise amount) room used node depth asked.term
  can = record {
    holds = asked.holds;
    below = asked.below;
    deep = asked.deep;
    roomy = record {
      some = omega (arith, asked.below);
      fits = omega (arith, asked.fits, nodes-raise amount depth asked.term);
      few = omega (arith, asked.few, nodes-raise amount depth asked.term);
      low = omega (arith, asked.deep, height-raise amount depth asked.term);
      small = asked.small;
    };
  }

  raised-says : Says (lifted (word room node) amount) (raise amount depth asked.term)
  raised-says = says-lifted (word room node) amount depth asked.term (says room _ node asked.holds)

  -- the node is one term only
  copied_raises : {r : Made} {after : List ℕ} → Copied (raise amount depth asked.term) room used r after
      → Raises room used node amount depth r after
  copied_raises x = record {
    raised = λ t h. rw (held_once room node t asked.term h asked.holds) x.holds;
    below = x.below;
    grows = x.grows;
    most = λ t h.
        rw (held_once room node t asked.term h asked.holds)
        (omega (arith, x.most, nodes-raise amount depth asked.term));
    same = x.same;
  }

  stays : raise amount depth asked.term ≡ asked.term
      → Raises room used node amount depth (record { node = node; used = used }) room
  stays e = copied_raises (shared asked.below (rw e asked.holds))

  pub at_nothing : amount ≡ 0 → Raises room used node amount depth (record { node = node; used = used }) room
  at_nothing zero = stays (rw zero (raise-nothing depth asked.term))

  pub at_shared : free_in (word room node) ≤ depth
      → Raises room used node amount depth (record { node = node; used = used }) room
  at_shared low =
      let said = says room asked.term node asked.holds in
      stays (raise_stays amount asked.term low (said.free_are (omega (arith, asked.deep))))

  module _ {found : Node} (told : found ≡ node_in (word room node) (link room node)) where
    -- A VARIABLE
    module _ {i : ℕ} (is : found ≡ Variable i) where
      index_is : asked.term ≡ var i
      index_is = held-variable room node told asked.term asked.holds is

      pub at_bound : i ≤ depth
          → Raises room used node amount depth (record { node = node; used = used }) room
      at_bound low = stays (rw index_is (raise-bound amount depth i low))

      module _ (free : depth < i) where
        moves : raise amount depth asked.term ≡ var (i + amount)
        moves = rw index_is (raise_free amount depth i free)

        pub variable_asks : (i + amount ≤ greatest_number) × (2 * used + 2 ≤ length room)
        unfolding greatest_index
        variable_asks = (omega (arith, ap greatest_index moves, asked.small), one_fits can.roomy)

        pub at_variable : {next : ℕ} {after : List ℕ} → next ≡ used + 1 → Same room after used
            → Holds after (var (i + amount)) used
            → Raises room used node amount depth (record { node = used; used = next }) after
        at_variable end same new = copied_raises (rw moves (new_variable end same new))

    -- AN ABSTRACTION
    module _ {b : ℕ} (is : found ≡ Abstraction b) where
      pub body_asks : (b < node) × Raisable room used b amount (depth + 1)
      body_asks =
          ((held-body walks can told is).below, raisable _ (body-can walks can told is) asked.little)

      module _ {body : Made} {mid : List ℕ}
          (raises : Raises room used b amount (depth + 1) body mid) where
        body_copied : Copied (raise amount (depth + 1) (held-body walks can told is).body) room used body mid
        body_copied = raises_copied _ (held-body walks can told is).held raises

        pub abstraction_asks : 2 * body.used + 2 ≤ length mid
        abstraction_asks = (lam_asks walks can told is body_copied).1

        pub at_abstraction : {facts next : ℕ} {after : List ℕ} → facts ≡ lifted (word room node) amount
            → (next ≡ body.used + 1)
            × (after ≡ set (set mid (2 * body.used) facts) (2 * body.used + 1) body.node)
            → Raises room used node amount depth (record { node = body.used; used = next }) after
        at_abstraction facts_are put =
            let said = rw (body_is walks can told is) at raised-says in
            let held = body_copied.holds in
            let (end, same, new) =
            abstraction-made mid body.used _ body.node abstraction_asks put body_copied.below
            (λ t h. rw (facts_are, held_once mid body.node t _ h held) said) in
            copied_raises (lam_copied walks can told is body_copied end same (new _ held))

    -- AN APPLICATION
    module _ {m n : ℕ} (is : found ≡ Application m n) where
      pub left_asks : (m < node) × Raisable room used m amount depth
      left_asks =
          let left = left-can walks can told is in
          (omega (arith, (parts walks can told is).left_below), raisable _ left asked.little)

      module _ {left : Made} {mid : List ℕ} (first : Raises room used m amount depth left mid) where
        left_copied : Copied (raise amount depth (parts walks can told is).left) room used left mid
        left_copied = raises_copied _ (left-can walks can told is).holds first

        pub right_asks : (n < node) × Raisable mid left.used n amount depth
        right_asks =
            let right = right-can walks can told is left_copied in
            (omega (arith, (parts walks can told is).right_below), raisable _ right asked.little)

        module _ {right : Made} {end : List ℕ} (second : Raises mid left.used n amount depth right end) where
          right_copied : Copied (raise amount depth (parts walks can told is).right) mid left.used right end
          right_copied = raises_copied _ (right-can walks can told is left_copied).holds second

          pub application_asks : (left.node < right.used) × (right.node < right.used) × (right.used < 4294967296)
              × (2 * right.used + 2 ≤ length end)
          application_asks =
              let (l, r, low, fits, _, _) = app_asks walks can told is left_copied right_copied in
              (l, r, low, fits)

          pub at_application : {facts pair next : ℕ} {after : List ℕ} → facts ≡ lifted (word room node) amount
              → pair ≡ left.node + 4294967296 * right.node
              → (next ≡ right.used + 1) × (after ≡ set (set end (2 * right.used) facts) (2 * right.used + 1) pair)
              → Raises room used node amount depth (record { node = right.used; used = next }) after
          at_application facts_are paired put =
              let said = rw (parts_are walks can told is) at raised-says in
              let (l, r, low, fits) = application_asks in
              let l_held = left-kept left_copied right_copied in
              let r_held = right_copied.holds in
              let (stop, same, new) =
              application-made end right.used _ _ fits put paired l r low
              (λ t u h g.
              rw (facts_are, held_once end left.node t _ h l_held, held_once end right.node u _ g r_held) said) in
              copied_raises
              (app_copied walks can told is left_copied right_copied stop same (new _ _ l_held r_held))
