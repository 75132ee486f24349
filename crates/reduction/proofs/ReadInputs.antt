-- Two inputs that were read, one behind the other: 11 by the first one's root, or what its body and the second give.
use Prim.Native.Nat.{ℕ, ◌+◌, ◌-◌, ◌*◌, ◌≤◌, ◌<◌}
use mathlib.Core.Path.{◌≡◌, refl, ap, ◌∙◌}
use mathlib.Core.List.{List}
use native.Mathlib.Omega.{arith}
use lib.ListN.{length}
use Rattle.calculus.specs.Term.{Term, var, lam, app, nodes, height}
use Rattle.calculus.specs.Bounds.{most_nodes}
use Rattle.calculus.specs.Refusal.{refused, ◌then◌, not_abs}
use Rattle.calculus.specs.Outcomes.{body_of, applied, stored, coded}
use Rattle.calculus.proofs.Judged.{checked-given}
use Rattle.calculus.proofs.Measures.{nodes_positive}
use Rattle.term.specs.Surveys.{Admitted}
use Rattle.term.specs.declared.Refusal.TheVariants.{NotAbs}
use Rattle.nodes.specs.Node.{node_in}
use Rattle.nodes.specs.declared.Node.{Node}
use Rattle.nodes.specs.declared.Node.TheVariants.{Abstraction}
use Rattle.nodes.specs.Store.{Holds, Same, word, link, kind}
use Rattle.nodes.specs.Lending.{Lent}
use Rattle.nodes.specs.Reading.{Taken}
use Rattle.nodes.proofs.Granting.{lent_on}
use Rattle.nodes.proofs.Keeping.{holds_kept, says}
use Rattle.nodes.proofs.Parts.{HeldAbstraction, held-abstraction, reads_abstraction}
use Rattle.std.specs.Prelude.{Result, Err}
use Rattle.term.specs.Answers.{told}
use Rattle.term.specs.declared.Refusal.{Refusal}
use Rattle.nodes.specs.Working.{Works}
use Rattle.reduction.specs.Applying.{Contractible, Contracts}
use Rattle.reduction.proofs.Applications.{no_body, first_told, second_told}

-- THE FIRST INPUT leaves room for the second
module _ {cap top : ℕ} {s out store mid : List ℕ} (lent : Lent cap out store) (long : length mid ≡ length store)
    (one : Taken cap s 0 top mid) where
  few-first : top ≤ cap
  few-first = let (_, _, few) = checked-given s one.input.passes in omega (arith, one.count)

  pub second_asks : (top + cap < 4 * most_nodes) × (2 * (top + cap) ≤ length mid)
  second_asks =
      let few = few-first in
      let positive = nodes_positive one.input.term in
      let count = one.count in
      (omega (arith, lent.in_bounds), omega (arith, lent.room))

-- BOTH: the root of the first is a node, and the second is the last one
pub record Both (cap : ℕ) (s u out store : List ℕ) (top used : ℕ) (end : List ℕ) : Type 0 where
  pub first : Admitted cap s
  pub second : Admitted cap u
  pub root : Holds end first.term (top - 1)
  pub argument : Holds end second.term (used - 1)
  pub lent : Lent cap out end
  pub long : length end ≡ length store
  pub some : 0 < top
  pub few : top ≤ cap
  pub more : top < used
  pub most : used ≤ cap + cap
  pub room : length end ≡ 8 * cap

pub both_read : {cap top used : ℕ} {s u out store mid end : List ℕ} → Lent cap out store → length mid ≡ length store
    → Taken cap s 0 top mid → Same mid end top → Taken cap u top used end
    → Both cap s u out store top used end
both_read {top = top} {u = u} lent long one same two =
    let (_, _, few) = checked-given u two.input.passes in
    let first_few = few-first lent long one in
    let positive = nodes_positive one.input.term in
    let positive' = nodes_positive two.input.term in
    let count = one.count in
    let count' = two.count in
    let all = same.as_long ∙ long in
    record {
      first = one.input;
      second = two.input;
      root = holds_kept one.input.term (top - 1) same (omega arith) one.holds;
      argument = two.holds;
      lent = lent_on lent all;
      long = all;
      some = omega arith;
      few = first_few;
      more = omega arith;
      most = omega arith;
      room = all ∙ lent.room;
    }

module _ {cap top used : ℕ} {s u out store end : List ℕ} (both : Both cap s u out store top used end) where
  module _ {found : Node} (seen : found ≡ node_in (word end (top - 1)) (link end (top - 1))) where
    -- 11
    module _ (other : (n : ℕ) → found ≡ Abstraction n → ⊥) where
      root_no-body : (t : Term) → Holds end t (top - 1) → body_of t ≡ refused not_abs
      unfolding kind
      root_no-body (var i) h = refl
      root_no-body (lam b) h =
          let two = (says end (lam b) (top - 1) h).kind_is in
          absurd (other _ (seen ∙ reads_abstraction (word end (top - 1)) (link end (top - 1)) two))
      root_no-body (app l r) h = refl

      pub at_no-abstraction : Works (stored (applied cap s u then coded) out) store (told {A = ℕ} (Err NotAbs)) out end
      at_no-abstraction = no_body cap s u both.long both.first both.second refl (root_no-body both.first.term both.root)

    -- THE BODY
    module _ {n : ℕ} (is : found ≡ Abstraction n) where
      held : HeldAbstraction end (top - 1) n both.first.term
      held = held-abstraction end (top - 1) seen both.first.term both.root is

      pub linked_asks : Contractible cap end used n (used - 1) out
      unfolding nodes height
      linked_asks =
          let (_, low, few) = checked-given s both.first.passes in
          let (_, low', few') = checked-given u both.second.passes in
          record {
            lent = both.lent;
            body_term = held.body;
            put_term = both.second.term;
            holds = held.held;
            holds_put = both.argument;
            below = omega (arith, held.below, both.more);
            below_put = omega (arith, both.more);
            few = both.most;
            few_body = omega (arith, ap nodes held.same);
            few_put = few';
            low = omega (arith, ap height held.same);
            low_put = low';
          }

      pub at_linked : {r : Result ℕ Refusal} {store' after : List ℕ}
          → Contracts cap end n (used - 1) out r store' after
          → Works (stored (applied cap s u then coded) out) store (told r) after store'
      unfolding applied
      at_linked contracts =
          let works = contracts.contracts held.body both.second.term held.held both.argument in
          rw (both.first.passes, both.second.passes, held.same)
          (record { stores = works.stores; as_long = works.as_long ∙ both.long })

-- AN INPUT takes one node at least, and no more than the cap
pub takes : {cap used made : ℕ} {s room : List ℕ} → Taken cap s used made room → (used < made) × (made ≤ used + cap)
takes {s = s} taken =
    let (_, _, few) = checked-given s taken.input.passes in
    let positive = nodes_positive taken.input.term in
    let count = taken.count in
    (omega arith, omega arith)

-- THE SAME OF BOTH, as `work` has loaded them
module _ {cap top used : ℕ} {s u out store mid end : List ℕ} (lent : Lent cap out store) (kept : Same store mid 0)
    (one : Taken cap s 0 top mid) (same : Same mid end top) (two : Taken cap u top used end) {found : Node}
    (seen : found ≡ node_in (word end (top - 1)) (link end (top - 1))) where
  loaded : Both cap s u out store top used end
  loaded = both_read lent kept.as_long one same two

  pub loaded-no-abstraction : ((n : ℕ) → found ≡ Abstraction n → ⊥)
      → Works (stored (applied cap s u then coded) out) store (told {A = ℕ} (Err NotAbs)) out end
  loaded-no-abstraction other = at_no-abstraction loaded seen other

  module _ {n : ℕ} (is : found ≡ Abstraction n) where
    pub loaded_asks : Contractible cap end used n (used - 1) out
    loaded_asks = linked_asks loaded seen is

    pub at_loaded : {r : Result ℕ Refusal} {store' after : List ℕ} → Contracts cap end n (used - 1) out r store' after
        → Works (stored (applied cap s u then coded) out) store (told r) after store'
    at_loaded contracts = at_linked loaded seen is contracts

-- what closes the goals of `work` but those of the contraction
pub ruleset reading = (first_told, second_told, takes, second_asks, loaded-no-abstraction)
