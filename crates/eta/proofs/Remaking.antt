-- A node whose parts are done: it stays, it is made anew of what they came to, or an abstraction goes.
use Rattle.std.specs.Prelude.{Option, Some, None}
use Prim.Native.Nat.{ℕ, ◌+◌, ◌*◌, ◌≤◌, ◌<◌}
use mathlib.Core.Path.{◌≡◌, refl, sym, ◌∙◌, ap, ap₂}
use mathlib.Core.Bool.{Bool, true, false, ◌||◌}
use mathlib.Core.List.{List}
use mathlib.Core.Logic.{inl, inr}
use native.Mathlib.Omega.{arith}
use Rattle.calculus.specs.Eta.{may_follow}
use Rattle.nodes.specs.Store.{Same, link}
use Rattle.nodes.proofs.Keeping.{same_refl}
use Rattle.eta.specs.Named.{Named, binds, joins, lone}
use Rattle.eta.specs.Shrinking.{Came, again}
use Rattle.eta.specs.Store.{Names, binder_word, node_at}
use Rattle.eta.specs.declared.named.Binder.{Binder}
use Rattle.eta.specs.declared.named.Node.TheVariants as read
use Rattle.eta.specs.Shrinks.{State, StandsFor, Checkable, Contracts, KeptOrPut, Joinable, Joins, Bindable, Rebinds, Binds}
use Rattle.nodes.proofs.Stored.{Stored}
use Rattle.eta.proofs.Remade.{binds-stored, joins-stored}
use Rattle.eta.proofs.Parts.{named-abstraction, named-application}

-- AN APPLICATION
module _ {room : List ℕ} {node : ℕ} {left right : State} (asked : Joinable room node left.node right) {some : Bool}
    (told : some ≡ (left.left || right.left)) where
  -- whichever node joins what the parts came to
  joined : {n next : ℕ} {after : List ℕ}
      → ((l r : Named) → Names room l left.node → Names room r right.node → Names after (joins l r) n)
      → n < next → right.used ≤ next → next ≤ right.used + 1 → Same room after right.used
      → Joins room node left right (record { node = n; used = next; steps = right.steps; left = some }) after
  joined both below grows most same = record {
    comes = λ c d first second. record {
      steps = second.steps;
      names = both c.1 d.1 first.names second.names;
      left = told ∙ ap₂ ◌||◌ first.left second.left;
      below = below;
    };
    most = most;
    grows = grows;
    same = same;
  }

  join_stays : node_at room node ≡ read.Application left.node right.node
      → Joins room node left right
      (record { node = node; used = right.used; steps = right.steps; left = some }) room
  unfolding Names
  join_stays is =
      let v = named-application room node (joins asked.left_term asked.right_term) is asked.names in
      let (kind, _, _, _, _) = asked.names in
      joined (λ l r first second.
      (kind, rw v.left_is v.left_below, rw v.right_is v.right_below, rw v.left_is first, rw v.right_is second))
      asked.below (omega arith) (omega arith) (same_refl room right.used)

  join-made : {next : ℕ} {after : List ℕ} → next ≡ right.used + 1
      → Stored room after right.used 3 (left.node + 4294967296 * right.node)
      → Joins room node left right
      (record { node = right.used; used = next; steps = right.steps; left = some }) after
  join-made end new =
      let low : left.node < 4294967296 = omega (arith, asked.left_below, asked.few) in
      joined (λ l r. joins-stored new l r refl refl low asked.left_below asked.right_below) (omega arith)
      (omega arith) (omega arith) new.same

  pub join-done : {r : State} {after : List ℕ}
      → KeptOrPut room node (read.Application left.node right.node) some right.used right.steps r after
      → Joins room node left right r after
  join-done (inl (is, r_is, same)) = rw (r_is, same) (join_stays is)
  join-done (inr (r_is, new)) = rw r_is (join-made refl new)

-- AN ABSTRACTION
module _ {room : List ℕ} {node : ℕ} {binder : Binder} {body : State} (asked : Bindable room node binder body) where
  -- whichever node binds what the body came to
  rebound : {left : Bool} {n next : ℕ} {after : List ℕ}
      → ((b : Named) → binder.linear ≡ lone binder.level b → Names room b body.node
      → Names after (binds binder.level b) n)
      → n < next → body.used ≤ next → next ≤ body.used + 1 → Same room after body.used
      → Rebinds room node binder body left (record { node = n; used = next; steps = body.steps; left = left }) after
  rebound whole below grows most same = record {
    comes = λ b c h linear done alike. record {
      steps = done.steps;
      names = whole c.1 (linear ∙ sym alike) done.names;
      left = refl;
      below = below;
    };
    most = most;
    grows = grows;
    same = same;
  }

  rebind_stays : {left : Bool} → node_at room node ≡ read.Abstraction binder body.node
      → Rebinds room node binder body left
      (record { node = node; used = body.used; steps = body.steps; left = left }) room
  unfolding Names
  rebind_stays is =
      let v = named-abstraction room node (binds binder.level asked.body_term) is asked.names in
      let stays = asked.names in
      let at_body : link room node ≡ body.node = v.link_is in
      rebound (λ b linear part. (rw (sym linear) v.word_is, rw at_body v.below, rw at_body part)) asked.below
      (omega arith) (omega arith) (same_refl room body.used)

  rebind-made : {left : Bool} {next : ℕ} {after : List ℕ} → next ≡ body.used + 1
      → Stored room after body.used (binder_word binder.level binder.linear) body.node
      → Rebinds room node binder body left
      (record { node = body.used; used = next; steps = body.steps; left = left }) after
  rebind-made end new =
      rebound (λ b linear. binds-stored new binder.level b (ap (binder_word binder.level) linear) asked.stands.below)
      (omega arith) (omega arith) (omega arith) new.same

  pub rebind-done : {left : Bool} {r : State} {after : List ℕ}
      → KeptOrPut room node (read.Abstraction binder body.node) left body.used body.steps r after
      → Rebinds room node binder body left r after
  rebind-done (inl (is, r_is, same)) = rw (r_is, same) (rebind_stays is)
  rebind-done (inr (r_is, new)) = rw r_is (rebind-made refl new)

  pub bind_checks : Checkable room body.node
  bind_checks = record {
    term = asked.came.1;
    names = asked.stands.names;
    inside = omega (arith, asked.stands.below, asked.fits);
  }

  module _ {found : Option ℕ} (tells : Contracts room binder body.node found) where
    stayed : {limit : ℕ} {left : Bool} {r : State} {after : List ℕ} → Rebinds room node binder body left r after
        → ((b : Named) (c : Came) → binder.linear ≡ lone binder.level b → StandsFor room body c
        → again (may_follow limit) binder.level (lone binder.level b) c ≡ (c.0, binds binder.level c.1, left))
        → Binds room node binder body limit r after
    stayed stays told = record {
      comes = λ b c h linear done alike. rw (told b c linear done) (stays.comes b c h linear done alike);
      most = stays.most;
      grows = stays.grows;
      same = stays.same;
    }

    pub bind_stays : {limit : ℕ} {r : State} {after : List ℕ} → found ≡ None
        → Rebinds room node binder body body.left r after → Binds room node binder body limit r after
    bind_stays none stays =
        stayed stays (λ b c linear done.
        rw (sym linear, tells.stays none c.1 done.names, done.left))

    pub bind-ends : {limit applied : ℕ} {r : State} {after : List ℕ} → found ≡ Some applied
        → may_follow limit body.steps ≡ false → Rebinds room node binder body true r after
        → Binds room node binder body limit r after
    bind-ends {limit} {applied} some last stays =
        stayed stays (λ b c linear done.
        let (place, _, _) = tells.goes applied some c.1 done.names in
        let no_more = ap (may_follow limit) (sym done.steps) ∙ last in
        rw (sym linear, place, no_more))

    pub bind_goes : {limit applied : ℕ} → found ≡ Some applied → may_follow limit body.steps ≡ true
        → Binds room node binder body limit
        (record { node = applied; used = body.used; steps = body.steps + 1; left = body.left }) room
    bind_goes {limit} {applied} some more = record {
      comes = λ b c h linear done alike.
          let (place, below, names) = tells.goes applied some c.1 done.names in
          let one_more = ap (may_follow limit) (sym done.steps) ∙ more in
          rw (sym linear, place, one_more) (record {
            steps = omega (arith, done.steps);
            names = names;
            left = done.left;
            below = omega (arith, below, done.below);
          });
      most = omega arith;
      grows = omega arith;
      same = same_refl room body.used;
    }
