-- Putting an argument in: at each kind, what the calls ask and what they come to.
use Prim.Native.Nat.{ℕ, suc, pred, ◌+◌, ◌*◌, ◌-◌, ◌≤◌, ◌<◌, max}
use mathlib.Core.Path.{◌≡◌, refl, sym, ap, ap₂}
use mathlib.Core.List.{List}
use native.Mathlib.Omega.{arith}
use lib.ListN.{length}
use Rattle.calculus.specs.Term.{Term, var, lam, app}
use Rattle.calculus.specs.Substitution.{raise, put}
use Rattle.calculus.specs.Queries.{max_free}
use Rattle.calculus.proofs.Substituting.{put-below, put_at, put-above}
use Rattle.nodes.specs.Packing.{nodes_in, height_in, free_in}
use Rattle.nodes.specs.Store.{Holds, Same, word, link}
use Rattle.nodes.specs.Node.{node_in}
use Rattle.nodes.specs.declared.Node.{Node}
use Rattle.nodes.specs.declared.Node.TheVariants.{Variable, Abstraction, Application}
use Rattle.nodes.proofs.Keeping.{holds_kept, says}
use Rattle.substitution.specs.Raising.{Raisable, Raises}
use Rattle.substitution.specs.Placing.{Placeable, Places}
use Rattle.substitution.specs.Raising.{Made}
use Rattle.substitution.proofs.Lifting.{height-raise}
use Rattle.nodes.proofs.Parts.{held-variable}
use Rattle.nodes.proofs.Holding.{held_once}
use Rattle.substitution.proofs.Copying.{Copied, shared, one_fits, new_variable, left-kept}
use Rattle.substitution.proofs.Walking.{Walks, Copyable, held-body, body-can, lam_asks, lam_copied}
use Rattle.substitution.proofs.Walking.{parts, left-can, right-can, app_asks, app_copied}
use Rattle.substitution.proofs.Raised.{raisable, raises_copied, at_nothing}

pub put_stays : {f d : ℕ} (a t : Term) → f ≤ d → max_free f t ≡ 0 → put d a t ≡ t
unfolding put max_free
put_stays {f} {d} a (var i) le h = put-below d a i (omega arith)
put_stays a (lam b) le h = ap lam (put_stays a b (omega arith) h)
put_stays a (app l r) le h = ap₂ app (put_stays a l le (omega arith)) (put_stays a r le (omega arith))

abbrev putting : Term → ℕ → Term → Term
putting a d t = put d a t

put_walks : (a : Term) → Walks (putting a)
unfolding put
put_walks a = record {
  into_body = λ d b. let one : d + 1 ≡ suc d = omega arith in rw one refl;
  into_parts = λ d l r. refl;
}

placeable : {room : List ℕ} {used node depth argument : ℕ} (t a : Term) → Copyable (putting a) room used node depth t
    → Holds room a argument → argument < used → Placeable room used node depth argument
placeable t a can h below_put = record {
  term = t;
  put_term = a;
  holds = can.holds;
  holds_put = h;
  below = can.below;
  below_put = below_put;
  fits = can.roomy.fits;
  few = can.roomy.few;
  deep = can.deep;
  low = can.roomy.low;
  small = can.roomy.small;
}

places_copied : {room : List ℕ} {used node depth argument : ℕ} {r : Made} {after : List ℕ} (t a : Term)
    → Holds room t node → Holds room a argument → Places room used node depth argument r after
    → Copied (put depth a t) room used r after
places_copied t a h g x = record {
  holds = x.placed t a h g;
  below = x.below;
  grows = x.grows;
  most = x.most t a h g;
  same = x.same;
}

module _ {room : List ℕ} {used node depth argument : ℕ} (asked : Placeable room used node depth argument) where
  can : Copyable (putting asked.put_term) room used node depth asked.term
  can = record {
    holds = asked.holds;
    below = asked.below;
    deep = asked.deep;
    roomy = record {
      some = omega (arith, asked.below);
      fits = asked.fits;
      few = asked.few;
      low = asked.low;
      small = asked.small;
    };
  }

  walks : Walks (putting asked.put_term)
  walks = put_walks asked.put_term

  -- each node is one term only
  term_once : (t : Term) → Holds room t node → t ≡ asked.term
  term_once t h = held_once room node t asked.term h asked.holds

  put_once : (a : Term) → Holds room a argument → a ≡ asked.put_term
  put_once a h = held_once room argument a asked.put_term h asked.holds_put

  copied_places : {r : Made} {after : List ℕ} → Copied (put depth asked.put_term asked.term) room used r after
      → Places room used node depth argument r after
  copied_places x = record {
    placed = λ t a h g. rw (term_once t h, put_once a g) x.holds;
    below = x.below;
    grows = x.grows;
    most = λ t a h g. rw (term_once t h, put_once a g) x.most;
    same = x.same;
  }

  stays : put depth asked.put_term asked.term ≡ asked.term
      → Places room used node depth argument (record { node = node; used = used }) room
  stays e = copied_places (shared asked.below (rw e asked.holds))

  pub at_shared : free_in (word room node) ≤ depth
      → Places room used node depth argument (record { node = node; used = used }) room
  at_shared low =
      let said = says room asked.term node asked.holds in
      stays (put_stays asked.put_term asked.term low (said.free_are (omega (arith, asked.deep))))

  module _ {found : Node} (told : found ≡ node_in (word room node) (link room node)) where
    -- A VARIABLE
    module _ {i : ℕ} (is : found ≡ Variable i) where
      index_is : asked.term ≡ var i
      index_is = held-variable room node told asked.term asked.holds is

      pub at_bound : i ≤ depth
          → Places room used node depth argument (record { node = node; used = used }) room
      at_bound low = stays (rw index_is (put-below depth asked.put_term i low))

      -- the index that equals its depth becomes the argument
      module _ (here : i ≡ depth + 1) where
        becomes : put depth asked.put_term asked.term ≡ raise depth 0 asked.put_term
        becomes = rw index_is (put_at depth asked.put_term i (omega arith))

        pub argument_asks : Raisable room used argument depth 0
        argument_asks =
            let roomy = rw becomes at can.roomy in
            raisable asked.put_term (record {
              holds = asked.holds_put;
              below = asked.below_put;
              deep = omega (arith, roomy.low, height-raise depth 0 asked.put_term);
              roomy = roomy;
            }) (omega (arith, asked.deep))

        pub at_argument : {r : Made} {after : List ℕ} → Raises room used argument depth 0 r after
            → Places room used node depth argument r after
        at_argument raises =
            copied_places (rw becomes (raises_copied asked.put_term asked.holds_put raises))

        -- under no binder, as it is
        pub at_once : depth ≡ 0
            → Places room used node depth argument (record { node = argument; used = used }) room
        at_once zero = at_argument (at_nothing argument_asks zero)

      -- a greater index falls by 1
      pub variable_asks : 2 * used + 2 ≤ length room
      variable_asks = one_fits can.roomy

      pub at_variable : depth < i → (i ≡ depth + 1 → ⊥) → {next : ℕ} {after : List ℕ}
          → next ≡ used + 1 → Same room after used → Holds after (var (i - 1)) used
          → Places room used node depth argument (record { node = used; used = next }) after
      at_variable free other end same new =
          let above : suc depth < i = omega (arith, other) in
          let falls : pred i ≡ i - 1 = omega arith in
          let moves : put depth asked.put_term asked.term ≡ var (i - 1) =
          rw (index_is, sym falls) (put-above depth asked.put_term i above) in
          copied_places (rw moves (new_variable end same new))

    -- AN ABSTRACTION
    module _ {b : ℕ} (is : found ≡ Abstraction b) where
      pub body_asks : (b < node) × Placeable room used b (depth + 1) argument
      body_asks =
          let v = held-body walks can told is in (
            v.below,
            placeable v.body asked.put_term (body-can walks can told is) asked.holds_put asked.below_put,
          )

      module _ {body : Made} {mid : List ℕ}
          (places : Places room used b (depth + 1) argument body mid) where
        body_copied : Copied (put (depth + 1) asked.put_term (held-body walks can told is).body) room used body mid
        body_copied = places_copied _ _ (held-body walks can told is).held asked.holds_put places

        pub abstraction_asks : (body.node < body.used) × (2 * body.used + 2 ≤ length mid)
            × (nodes_in (word mid body.node) < 262143) × (height_in (word mid body.node) < 1023)
        abstraction_asks = lam_asks walks can told is body_copied

        pub at_abstraction : {next : ℕ} {after : List ℕ} → next ≡ body.used + 1 → Same mid after body.used
            → ((t : Term) → Holds mid t body.node → Holds after (lam t) body.used)
            → Places room used node depth argument (record { node = body.used; used = next }) after
        at_abstraction end same new =
            copied_places (lam_copied walks can told is body_copied end same (new _ body_copied.holds))

    -- AN APPLICATION
    module _ {m n : ℕ} (is : found ≡ Application m n) where
      pub left_asks : (m < node) × Placeable room used m depth argument
      left_asks =
          let left = left-can walks can told is in (
            omega (arith, (parts walks can told is).left_below),
            placeable _ asked.put_term left asked.holds_put asked.below_put,
          )

      module _ {left : Made} {mid : List ℕ} (first : Places room used m depth argument left mid) where
        left_copied : Copied (put depth asked.put_term (parts walks can told is).left) room used left mid
        left_copied =
            places_copied _ _ (left-can walks can told is).holds asked.holds_put first

        put-kept : Holds mid asked.put_term argument
        put-kept = holds_kept asked.put_term argument first.same asked.below_put asked.holds_put

        pub right_asks : (n < node) × Placeable mid left.used n depth argument
        right_asks =
            let right = right-can walks can told is left_copied in (
              omega (arith, (parts walks can told is).right_below),
              placeable _ asked.put_term right put-kept (omega (arith, asked.below_put, first.grows)),
            )

        module _ {right : Made} {end : List ℕ} (second : Places mid left.used n depth argument right end) where
          right_copied : Copied (put depth asked.put_term (parts walks can told is).right) mid left.used
              right end
          right_copied =
              places_copied _ _ (right-can walks can told is left_copied).holds put-kept second

          pub application_asks : (left.node < right.used) × (right.node < right.used) × (right.used < 4294967296)
              × (2 * right.used + 2 ≤ length end)
              × (nodes_in (word end left.node) + nodes_in (word end right.node) < 262143)
              × (max (height_in (word end left.node)) (height_in (word end right.node)) < 1023)
          application_asks = app_asks walks can told is left_copied right_copied

          pub at_application : {next : ℕ} {after : List ℕ} → next ≡ right.used + 1 → Same end after right.used
              → ((l r : Term) → Holds end l left.node → Holds end r right.node
              → Holds after (app l r) right.used)
              → Places room used node depth argument (record { node = right.used; used = next }) after
          at_application stop same new =
              copied_places
              (app_copied walks can told is left_copied right_copied stop same
              (new _ _ (left-kept left_copied right_copied) right_copied.holds))
