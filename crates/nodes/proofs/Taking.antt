-- Reading bytes of which nothing is known: what the calls ask, and what each `return` comes to.
use Prim.Native.Nat.{ℕ, zero, suc, ◌+◌, ◌-◌, ◌*◌, ◌≤◌, ◌<◌, max}
use mathlib.Core.Path.{◌≡◌, refl}
use mathlib.Core.Bool.{Bool, true, false}
use Rattle.std.specs.Prelude.{Option, Some, None}
use mathlib.Core.List.{List, [], ◌∷◌}
use native.Mathlib.Omega.{arith}
use lib.Dec.{leb}
use lib.ListN.{length, get_or, take, drop, length-drop}
use lib.Seq.{get_or-drop}
use borrow.Author.Tests.{leb-true}
use Rattle.calculus.specs.Term.{Term, var, lam, app, nodes, height}
use Rattle.calculus.specs.Bounds.{most_nodes, most_height}
use Rattle.calculus.specs.Numbers.{from_digits}
use Rattle.calculus.specs.Bytes.{variable_if}
use Rattle.calculus.proofs.Coding.{AllBytes}
use Rattle.calculus.proofs.Judged.{checked-given}
use Rattle.calculus.proofs.Measures.{nodes_positive}
use Rattle.calculus.proofs.Sizes.{size, size_positive}
use Rattle.term.specs.Surveys.{Stands, Admitted}
use Rattle.term.specs.Heads.{head_of_found, head_of_kind, head_in}
use Rattle.term.specs.declared.Head.{Head}
use Rattle.term.specs.declared.Head.TheVariants.{Variable, Abstraction, Application}
use Rattle.term.proofs.Places.{size-within, drop_more}
use Rattle.term.proofs.Standing.{kind-inside, variable-stands, abstraction-stands, application-stands, takes_all}
use Rattle.nodes.specs.Packing.{nodes_in, height_in}
use Rattle.nodes.specs.Store.{Holds, Same, word}
use Rattle.nodes.specs.Coded.{Loadable, Loads}
use Rattle.nodes.specs.Reading.{Readable, Read, Reads, Taken}
use Rattle.nodes.specs.declared.Loaded.{Loaded}
use Rattle.nodes.proofs.Keeping.{same_refl, same_then, holds_kept, says}

-- WHICH BYTES a head is read from
data Shows : List ℕ → Option Head → Type 0 where
  variable : {bs : List ℕ} → 8 ≤ length bs → Shows (1 ∷ bs) (Some (Variable (from_digits 256 (take 8 bs))))
  abstraction : {bs : List ℕ} → Shows (2 ∷ bs) (Some Abstraction)
  application : {bs : List ℕ} → Shows (3 ∷ bs) (Some Application)
  nothing : {l : List ℕ} → Shows l None

shows : (l : List ℕ) → Shows l (head_in l)
unfolding head_in head_of_kind
shows [] = nothing
shows (zero ∷ bs) = nothing
shows (suc zero ∷ bs) = by (leb 8 (length bs)) refl
  where
    by : (b : Bool) → leb 8 (length bs) ≡ b → Shows (1 ∷ bs) (head_of_found (variable_if b bs))
    by true e = variable (leb-true 8 (length bs) e)
    by false e = nothing
shows (suc (suc zero) ∷ bs) = abstraction
shows (suc (suc (suc zero)) ∷ bs) = application
shows (suc (suc (suc (suc k))) ∷ bs) = nothing

shown_variable : {l : List ℕ} {i : ℕ} → Shows l (Some (Variable i))
    → (get_or l 0 0 ≡ 1) × (9 ≤ length l) × (i ≡ from_digits 256 (take 8 (drop 1 l)))
shown_variable (variable long) = (refl, omega (arith, long), refl)

shown_abstraction : {l : List ℕ} → Shows l (Some Abstraction) → get_or l 0 0 ≡ 2
shown_abstraction abstraction = refl

shown_application : {l : List ℕ} → Shows l (Some Application) → get_or l 0 0 ≡ 3
shown_application application = refl

module _ (s : List ℕ) (at : ℕ) where
  byte_there : {k : ℕ} → get_or (drop at s) 0 0 ≡ k → get_or s at 0 ≡ k
  byte_there e =
      let same : at + 0 ≡ at = omega arith in
      rw (get_or-drop, same) at e

  module _ {i : ℕ} (head : head_in (drop at s) ≡ Some (Variable i)) where
    shown : Shows (drop at s) (Some (Variable i))
    shown = rw head at (shows (drop at s))

    pub variable-inside : at + 9 ≤ length s
    variable-inside = omega (arith, (shown_variable shown).1, length-drop at s)

    variable-there : AllBytes s → Stands s at (var i)
    variable-there bytes =
        let (kind, long, index) = shown_variable shown in
        rw (index, ← drop_more s at 1 refl) (variable-stands bytes (byte_there kind) variable-inside)

  abstraction-there : head_in (drop at s) ≡ Some Abstraction → get_or s at 0 ≡ 2
  abstraction-there head = byte_there (shown_abstraction (rw head at (shows (drop at s))))

  application-there : head_in (drop at s) ≡ Some Application → get_or s at 0 ≡ 3
  application-there head = byte_there (shown_application (rw head at (shows (drop at s))))

  pub abstraction-inside : head_in (drop at s) ≡ Some Abstraction → at < length s
  abstraction-inside head = kind-inside s at (omega arith) (abstraction-there head)

  pub application-inside : head_in (drop at s) ≡ Some Application → at < length s
  application-inside head = kind-inside s at (omega arith) (application-there head)

-- A VARIABLE takes one node, at height 1
module _ {used cap deep : ℕ} {room : List ℕ} (asked : Readable room used cap deep) (more : used < cap) where
  pub variable_asks : 2 * used + 2 ≤ length room
  variable_asks = omega (arith, asked.fits)

  pub at_variable : {s : List ℕ} {at i made : ℕ} {after : List ℕ} → 0 < deep → AllBytes s → head_in (drop at s) ≡ Some (Variable i)
      → made ≡ used + 1 → Same room after used
      → Holds after (var i) used → Reads s at room used cap deep (Some (at + 9)) made after
  unfolding nodes height size
  at_variable {s} {at} {i} some bytes head made same new =
      let last : used + 1 - 1 ≡ used = omega arith in
      rw made (record {
        same = same;
        grows = omega arith;
        few = omega arith;
        read = record {
          term = var i;
          stands = variable-there s at head bytes;
          passed = omega arith;
          low = omega arith;
          count = omega arith;
          holds = rw last new;
        };
      })

module _ {room : List ℕ} {used cap deep : ℕ} (asked : Readable room used cap deep) where
  pub nothing_read : {s : List ℕ} {at : ℕ} → Reads s at room used cap deep None used room
  nothing_read = record {
    same = same_refl room used;
    grows = omega arith;
    few = asked.begun;
    read = tt;
  }

-- the first part was read
pub record Begun (s : List ℕ) (at : ℕ) (room : List ℕ) (used cap deep first left : ℕ) (mid : List ℕ) : Type 0 where
  pub asked : Readable room used cap deep
  pub more : used < cap
  pub some : 0 < deep
  pub reads : Reads s (at + 1) room used (cap - 1) (deep - 1) (Some first) left mid

module _ {s : List ℕ} {at used cap deep first left : ℕ} {room mid : List ℕ}
    (one : Begun s at room used cap deep first left mid) where
  part : Read s (at + 1) used (deep - 1) first left mid
  part = one.reads.read

  pub some-made : 0 < left
  some-made = omega (arith, part.count, nodes_positive part.term)

  -- AN ABSTRACTION
  pub abstraction_asks : (left - 1 < left) × (2 * left + 2 ≤ length mid)
      × (nodes_in (word mid (left - 1)) < 262143) × (height_in (word mid (left - 1)) < 1023)
  abstraction_asks =
      let said = says mid part.term (left - 1) part.holds in
      let positive = some-made in
      let few = one.reads.few in (
        omega arith,
        omega (arith, one.asked.fits, one.reads.same.as_long),
        omega (arith, one.asked.few, part.count, said.nodes_are),
        omega (arith, one.asked.low, part.low, said.height_is),
      )

  pub at_abstraction : {made : ℕ} {after : List ℕ} → head_in (drop at s) ≡ Some Abstraction → made ≡ left + 1 → Same mid after left
      → ((t : Term) → Holds mid t (left - 1) → Holds after (lam t) left)
      → Reads s at room used cap deep (Some first) made after
  unfolding nodes height size
  at_abstraction is made same new =
      let last : left + 1 - 1 ≡ left = omega arith in
      rw made (record {
        same = same_then one.reads.grows one.reads.same same;
        grows = omega (arith, one.reads.grows);
        few = omega (arith, one.reads.few);
        read = record {
          term = lam part.term;
          stands = abstraction-stands (abstraction-there s at is) part.stands;
          passed = omega (arith, part.passed);
          low = omega (arith, part.low);
          count = omega (arith, part.count);
          holds = rw last (new part.term part.holds);
        };
      })

  -- AN APPLICATION
  module _ {next top : ℕ} {end : List ℕ}
      (two : Reads s first mid left (cap - 1) (deep - 1) (Some next) top end) where
    right : Read s first left (deep - 1) next top end
    right = two.read

    pub more_made : 0 < top
    more_made = omega (arith, right.count, nodes_positive right.term)

    left-kept : Holds end part.term (left - 1)
    left-kept =
        let positive = some-made in
        holds_kept part.term (left - 1) two.same (omega arith) part.holds

    pub application_asks : (left - 1 < top) × (top - 1 < top) × (top < 4294967296) × (2 * top + 2 ≤ length end)
        × (nodes_in (word end (left - 1)) + nodes_in (word end (top - 1)) < 262143)
        × (max (height_in (word end (left - 1))) (height_in (word end (top - 1))) < 1023)
    application_asks =
        let l = says end part.term (left - 1) left-kept in
        let r = says end right.term (top - 1) right.holds in
        let positive = more_made in
        let begun = some-made in
        let grown = two.grows in
        let enough = two.few in (
          omega arith,
          omega arith,
          omega (arith, one.asked.few),
          omega (arith, one.asked.fits, one.reads.same.as_long, two.same.as_long),
          omega (arith, one.asked.few, part.count, right.count, l.nodes_are, r.nodes_are),
          omega (arith, one.asked.low, part.low, right.low, l.height_is, r.height_is),
        )

    pub at_application : {made : ℕ} {after : List ℕ} → head_in (drop at s) ≡ Some Application → made ≡ top + 1 → Same end after top
        → ((t u : Term) → Holds end t (left - 1) → Holds end u (top - 1) → Holds after (app t u) top)
        → Reads s at room used cap deep (Some next) made after
    unfolding nodes height size
    at_application is made same new =
        let last : top + 1 - 1 ≡ top = omega arith in
        let beside : Stands s (at + 1 + size part.term) right.term = rw (← part.passed) right.stands in
        rw made (record {
          same = same_then one.reads.grows one.reads.same (same_then two.grows two.same same);
          grows = omega (arith, one.reads.grows, two.grows);
          few = omega (arith, two.few);
          read = record {
            term = app part.term right.term;
            stands = application-stands (application-there s at is) part.stands beside;
            passed = omega (arith, part.passed, right.passed);
            low = omega (arith, part.low, right.low);
            count = omega (arith, part.count, right.count);
            holds = rw last (new part.term right.term left-kept right.holds);
          };
        })

-- ALL OF AN INPUT
pub whole-read : {cap : ℕ} {s room after : List ℕ} {used next made : ℕ} → AllBytes s
    → Reads s 0 room used (used + cap) most_height (Some next) made after → next ≡ length s
    → Taken cap s used made after
whole-read {cap} {s} bytes reads all =
    let r = reads.read in
    let few : nodes r.term ≤ cap = omega (arith, reads.few, r.count) in
    let (passes, small) = takes_all s r.term bytes r.stands (omega (arith, r.passed)) r.low few in
    record {
      input = record { term = r.term; passes = passes; stands = r.stands; small = small };
      count = r.count;
      holds = r.holds;
    }

-- A CHECKED INPUT has room, and once it is loaded it is taken too
pub input_asks : {cap : ℕ} {s room : List ℕ} {used : ℕ} → Admitted cap s → used + cap < 4 * most_nodes
    → 2 * (used + cap) ≤ length room
    → Loadable s 0 room used
input_asks {s = s} input few fits =
    let (_, low, small) = checked-given s input.passes in
    record {
      term = input.term;
      stands = input.stands;
      inside = omega (arith, size-within input.stands, size_positive input.term);
      few = omega (arith, few, small);
      fits = omega (arith, fits, small);
      low = low;
    }

pub loaded-taken : {cap : ℕ} {s room after : List ℕ} {used : ℕ} {r : Loaded} → (input : Admitted cap s)
    → Loads s 0 room used r after
    → Taken cap s used r.used after
loaded-taken input loads = record {
  input = input;
  count = loads.made input.term input.stands;
  holds = loads.loaded input.term input.stands;
}

-- WHERE NOTHING IS READ, that a part has a node, and that a head lies inside
pub ruleset reading = (nothing_read, nodes_positive, variable-inside, abstraction-inside, application-inside)
