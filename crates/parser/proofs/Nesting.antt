-- A sequence inside a sequence: how a group and the body of an abstraction are read, and what stops them.
use Prim.Native.Nat.{ℕ, ◌*◌, ◌≤◌, ◌<◌}
use mathlib.Core.Path.{◌≡◌, refl, sym, ap, ◌∙◌}
use mathlib.Core.Bool.{Bool}
use mathlib.Core.List.{List, ◌∷◌}
use native.Mathlib.Omega.{arith}
use lib.ListN.{length, drop}
use Rattle.std.specs.Prelude.{Option, Some, None, Result, Ok, Err}
use Rattle.calculus.specs.Bounds.{most_open, most_text}
use Rattle.calculus.specs.Refusal.{refused}
use Rattle.calculus.specs.Reading.{Notation}
use Rattle.calculus.specs.Walk.{Open}
use Rattle.calculus.specs.Grammar.{Waits}
use Rattle.term.specs.Answers.{refusal_of}
use Rattle.term.specs.declared.Refusal.{Refusal}
use Rattle.term.specs.declared.Refusal.TheVariants.{TooHigh}
use Rattle.words.specs.Places.{Clean, name_of}
use Rattle.words.specs.declared.Cursor.{Cursor}
use Rattle.parser.specs.declared.tokens.Binder.{Binder}
use Rattle.nodes.proofs.Keeping.{same_refl, same_then}
use Rattle.parser.specs.Opens.{name_at, open_of, entry, opens, Held}
use Rattle.parser.specs.States.{State, beside, under, go, unless_void, ended}
use Rattle.parser.specs.Tokens.{words_on, word_of, MetOpening}
use Rattle.parser.specs.Building.{Roomy, Joinable, Joins, JoinsUnder}
use Rattle.parser.specs.Sequences.{Ready, Ends, Comes, to_its_end, to_a_refusal}
use Rattle.parser.specs.Sequences.{Reads, Enters, no_more, one_more, Groups}
use Rattle.parser.specs.declared.building.Built.{Built}
use Rattle.parser.specs.declared.sequences.Went.{Went}
use Rattle.parser.proofs.Going.{goes-too_high, goes-group, goes-body, goes-refused}
use Rattle.parser.proofs.Openings.{opens_more, opened_more, opens-length}
use Rattle.parser.proofs.Meaning.{means-grows, means-kept}
use Rattle.parser.proofs.Turns.{SoFar, same-open, beside-void, one_item, stops}

-- WHAT OPENED, and came to its end
ends_of : {n : Notation} {s : List ℕ} {os : List Open} {w : Option Binder} {most : ℕ} {from : Cursor} {base : ℕ}
    {store : List ℕ} {went : Went} → Enters n s os w most from base store (Ok went)
    → Ends n s (open_of s w ∷ os) most from base store went.read went.here went.closed
ends_of (one_more few (to_its_end ends)) = ends

few-open : {n : Notation} {s : List ℕ} {os : List Open} {w : Option Binder} {most : ℕ} {from : Cursor} {base : ℕ}
    {store : List ℕ} {went : Went} → Enters n s os w most from base store (Ok went)
    → length os < most_open
few-open (one_more few comes) = few

-- or to a refusal: 6 or 7 inside, or 7 here
inside-stops : {n : Notation} {s : List ℕ} {os : List Open} {w : Option Binder} {most : ℕ} {after : Cursor}
    {used : ℕ} {store : List ℕ} {e : Refusal} → Enters n s os w most after used store (Err e)
    → (st : State) (ps : List Waits)
    → go os (word_of (open_of s w) ∷ words_on n s after.at) st ps ≡ refused (refusal_of e)
inside-stops {n} {s} {os} {w = w} {after = after} (no_more deep) st ps =
    goes-too_high (open_of s w) os (words_on n s after.at) st ps (omega arith)
inside-stops {n} {s} {os} {w = w} {after = after} {e = e} (one_more few (to_a_refusal goes)) st ps =
    goes-refused (open_of s w) os (words_on n s after.at) st ps (refusal_of e) (omega arith) goes

-- ONE MORE OPEN, or 7
module _ {n : Notation} {s : List ℕ} {stack : List Binder} {store : List ℕ} {most : ℕ}
    {from : Cursor} {base : ℕ}
    (ready : Ready n s stack store most from base) where
  pub too_many-open : {opening : Option Binder} → most_open ≤ length stack
      → Groups n s stack opening store most from base (Err TooHigh) stack store
  too_many-open deep = record { enters = no_more (omega (arith, opens-length s stack)); kept = refl; same = same_refl store base }

  module _ (few : length stack < most_open) where
    pub ready-opened : (opening : Option Binder) → Held s opening
        → Ready n s (entry opening ∷ stack) store most from base
    ready-opened opening inside = record {
      placed = ready.placed;
      valid = ready.valid;
      opened = opened_more s stack opening inside ready.opened few;
      roomy = ready.roomy;
      few = ready.few;
    }

    pub group-enters : (opening : Option Binder) → Held s opening
        → {r : Result Went Refusal} {stack' : List Binder} {store' : List ℕ}
        → Reads n s (entry opening ∷ stack) store most from base r stack' store'
        → {x : Binder} {stack'' : List Binder} → stack' ≡ x ∷ stack''
        → Groups n s stack opening store most from base r stack'' store'
    group-enters opening held reads popped = record {
      enters = one_more (omega (arith, opens-length s stack)) (rw (opens_more s stack opening held) at reads.comes);
      kept = ap (drop 1) (sym popped ∙ reads.kept);
      same = reads.same;
    }

-- the law by which `group` refuses
pub ruleset refusing = (too_many-open)

module _ {n : Notation} {s : List ℕ} {stack : List Binder} {store : List ℕ} {most : ℕ}
    {from : Cursor} {base : ℕ}
    {stack' : List Binder} {store' : List ℕ} {here : Cursor} {read : Built}
    (so_far : SoFar n s stack store most from base stack' store' here read)
    {after : Cursor} {w : Option Binder} (met : MetOpening n s (opens s stack') here w after)
    {stack'' : List Binder} {store'' : List ℕ} where
  -- 6 or 7 inside, or 7 here
  pub nested_stops : {r : Result Went Refusal} {e : Refusal} → r ≡ Err e
      → Groups n s stack' w store' most after read.used r stack'' store''
      → Reads n s stack store most from base (Err e) stack'' store''
  nested_stops {e = e} is groups = record {
    comes = to_a_refusal (stops so_far e
        (λ st ps. rw met.ahead
        (inside-stops (rw (is, same-open so_far) at groups.enters) st ps)));
    kept = groups.kept ∙ so_far.kept;
    same = same_then (means-grows so_far.reaches.means) so_far.same groups.same;
  }

  module _ {r : Result Went Refusal} {inner : Built} {last : Cursor} {closed : Bool}
      (is : r ≡ Ok (record { read = inner; here = last; closed = closed }))
      (groups : Groups n s stack' w store' most after read.used r stack'' store'') where
    inside : Ends n s (open_of s w ∷ opens s stack) most after read.used store'' inner last closed
    inside = rw (same-open so_far) at (ends_of (rw is at groups.enters))

    few_there : length (opens s stack) < most_open
    few_there = rw (same-open so_far) at (few-open (rw is at groups.enters))

    pub last-few : Clean s → Ready n s stack store most from base → inner.used ≤ 2 * most_text
    last-few clean ready =
        omega (
          arith,
          so_far.reaches.spent,
          ready.few,
          inside.reaches.spent,
          inside.reaches.step.placed.inside,
          clean.short,
        )

    pub went_on : (here.at < last.at) × (last.at ≤ length s)
    went_on =
        (omega (arith, met.moved, inside.reaches.step.forward), inside.reaches.step.placed.inside)

    pub roomy_after : Clean s → Ready n s stack store most from base → Roomy store'' most inner.used
    roomy_after clean ready = record {
      in_bounds = ready.roomy.in_bounds;
      room = omega (arith, ready.roomy.room, so_far.same.as_long, groups.same.as_long);
      few = omega (arith, last-few clean ready);
    }

    pub joinable-after : Joinable store'' most read inner
    joinable-after = record {
      base = base;
      state = so_far.state;
      inner = inside.state;
      means = means-kept groups.same so_far.reaches.means;
      next = inside.reaches.means;
    }

    is_open : {o : Option Binder} → w ≡ o → open_of s w ≡ open_of s o
    is_open e = ap (open_of s) e

    -- A GROUP: its sequence is the next item
    pub group-read : w ≡ None → {store''' : List ℕ} {more : Built} → Joins store'' most read inner store''' more
        → SoFar n s stack store most from base stack'' store''' last more
    unfolding word_of
    group-read is-group {more = more} joins =
        let reaches = inside.reaches in
        one_item so_far more inside.state
        (record {
          placed = reaches.step.placed;
          valid = reaches.step.valid;
          forward = omega (arith, reaches.step.forward, met.moved);
        })
        (omega (arith, reaches.spent, joins.adds.most_added, met.moved)) groups.kept
        (same_then (means-grows reaches.means) groups.same joins.adds.same)
        (joins.means base so_far.state inside.state (means-kept groups.same so_far.reaches.means)
        reaches.means)
        (λ st ps. rw (rw (is_open is-group) at met.ahead)
        (goes-group (opens s stack) (words_on n s after.at) (words_on n s last.at) closed st
        inside.state ps few_there (rw (is_open is-group) at inside.goes) inside.last))

    -- AN ABSTRACTION: its body, and so its sequence, ends where the rest of the sequence ends
    body-ends : {x : Binder} → w ≡ Some x → {store''' : List ℕ} {more : Built} → JoinsUnder store'' most read inner store''' more
        → Comes n s (opens s stack) most from base store''' (Ok (record { read = more; here = last; closed = closed }))
    unfolding word_of
    body-ends {x} binds {more = more} joins =
        let reaches = inside.reaches in
        to_its_end {went = record { read = more; here = last; closed = closed }} (record {
          state = beside so_far.state (under inside.state);
          reaches = record {
            step = record {
              placed = reaches.step.placed;
              valid = reaches.step.valid;
              forward = omega (arith, reaches.step.forward, so_far.reaches.step.forward, met.moved);
            };
            spent = omega (arith, reaches.spent, so_far.reaches.spent, joins.adds.most_added, met.moved);
            means = joins.means base so_far.state inside.state
                (means-kept groups.same so_far.reaches.means) reaches.means;
          };
          last = inside.last;
          goes = λ failed ps.
              so_far.goes failed ps
              ∙ rw (rw (is_open binds) at met.ahead)
              (goes-body (opens s stack) (words_on n s after.at) (words_on n s last.at) closed
              (unless_void failed so_far.state) inside.state ps few_there (name_of s (name_at x))
              (rw (is_open binds) at inside.goes))
              ∙ ap (λ (st : State). go (opens s stack) (ended closed (words_on n s last.at)) st ps)
              (beside-void failed so_far.state (under inside.state));
        })

    pub body-read : {x : Binder} → w ≡ Some x → {store''' : List ℕ} {more : Built}
        → JoinsUnder store'' most read inner store''' more
        → Reads n s stack store most from base (Ok (record { read = more; here = last; closed = closed })) stack''
        store'''
    body-read binds {more = more} joins = record {
      comes = body-ends binds joins;
      kept = groups.kept ∙ so_far.kept;
      same = same_then (omega (arith, means-grows so_far.reaches.means, means-grows inside.reaches.means))
          (same_then (means-grows so_far.reaches.means) so_far.same groups.same) joins.adds.same;
    }
