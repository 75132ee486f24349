-- From the named term to what `eta` answers: the input's refusals, the run, and 1 and 2 before.
use Prim.Native.Nat.{ℕ, ◌-◌, ◌≤◌, ◌<◌}
use mathlib.Core.Path.{◌≡◌, refl, sym, ap, ◌∙◌}
use mathlib.Core.Bool.{Bool, true, false, cond}
use mathlib.Core.List.{List, []}
use native.Mathlib.Omega.{arith}
use lib.ListN.{length}
use Rattle.calculus.specs.Term.{Term, nodes, height}
use Rattle.calculus.specs.Bounds.{most_height}
use Rattle.calculus.specs.Bytes.{encode}
use Rattle.calculus.specs.Runs.{finished, unfinished, refused_after}
use Rattle.calculus.specs.Eta.{eta, may_follow, eta_from}
use Rattle.calculus.specs.Ends.{EtaSteps, none_made, one_more}
use Rattle.calculus.specs.Outcomes.{checked, run_on, stored_run, lent, cap_allowed, suffice, eta_of}
use Rattle.calculus.proofs.EtaRuns.{eta-comes, nodes-taken}
use Rattle.calculus.proofs.Judged.{checked-given}
use Rattle.calculus.proofs.Lowering.{eta_smaller}
use Rattle.calculus.proofs.Measures.{nodes_positive}
use Rattle.calculus.proofs.Putting.{Puts}
use Rattle.calculus.proofs.Sizes.{nine_per_node, size_positive}
use Rattle.calculus.proofs.Coding.{AllBytes}
use Rattle.term.specs.Answers.{told, check_of}
use Rattle.term.specs.FactsOf.{facts_of}
use Rattle.term.specs.Surveys.{Admitted}
use Rattle.term.specs.declared.Facts.{Facts}
use Rattle.std.specs.Prelude.{Result, Ok}
use Rattle.term.specs.declared.Refusal.{Refusal}
use Rattle.term.proofs.Checking.{check-whole, check_admits}
use Rattle.term.proofs.Places.{size-within}
use Rattle.nodes.specs.Answers.{ended, run_told}
use Rattle.nodes.specs.Lending.{Lent}
use Rattle.nodes.specs.declared.runs.End.{End}
use Rattle.nodes.specs.declared.runs.End.TheVariants.{Finished, Unfinished}
use Rattle.nodes.proofs.Ending.{run-stored}
use Rattle.eta.specs.Named.{named, plain, levels}
use Rattle.eta.specs.Scope.{Among, first, later, Scoped}
use Rattle.eta.specs.Shrinking.{Came, shrunk}
use Rattle.eta.specs.Levelled.{Levelled}
use Rattle.eta.specs.Naming.{Nameable, Reads}
use Rattle.eta.specs.Shrinks.{State, Shrinkable, Shrinks}
use Rattle.eta.specs.Writing.{Placed, Writable, Writes}
use Rattle.nodes.specs.Working.{Works}
use Rattle.eta.specs.declared.naming.Read.{Read}
use Rattle.eta.proofs.Levels.{scoped-named, plain-named, rise-named, weight-named}
use Rattle.eta.proofs.Ways.{rise-shrunk}
use Rattle.eta.proofs.Sequence.{scoped-shrunk, eta-shrunk, eta-whole}

no_higher : {n : ℕ} {t u : Term} → EtaSteps n t u → height u ≤ height t
no_higher none_made = omega arith
no_higher (one_more s rest) = omega (arith, no_higher rest, (eta_smaller s).no_higher)

among_none : {k : ℕ} {around : List ℕ} → Among k around → around ≡ [] → ⊥
among_none first e = let never : ◌≡◌ {A = ℕ} 0 1 = cc in omega arith
among_none (later a) e = let never : ◌≡◌ {A = ℕ} 0 1 = cc in omega arith

-- a run is left unfinished where a place is left
abbrev pub by_left : Bool → End
by_left true = Unfinished
by_left false = Finished

ended_left : {A : Type 0} (left : Bool) (steps : ℕ) (reached : A)
    → ended (by_left left) steps reached ≡ cond left (unfinished steps reached) (finished steps reached)
ended_left true steps reached = refl
ended_left false steps reached = refl

-- THE LEVELS that a checked term needs, by its height
pub checked-levels : (cap : ℕ) (s : List ℕ) {r : Result Facts Refusal} → told r ≡ check_of cap s → AllBytes s → {f : Facts}
    → r ≡ Ok f
    → Levelled cap s f.height × (f.height ≤ most_height)
unfolding facts_of
checked-levels cap s says bytes e =
    let whole = check-whole cap s says e in
    let input = check_admits cap s says bytes e in
    let same : whole.term ≡ input.term = cc (whole.let_through, input.passes) in
    let tall = ap (λ f. f.height) whole.same ∙ ap height same in
    let low = (checked-given s input.passes).1 in
    (record { input = input; enough = omega arith }, omega arith)

pub more_levels : {cap : ℕ} {s : List ℕ} {few many : ℕ} → Levelled cap s few → few ≤ many → Levelled cap s many
more_levels l h = record { input = l.input; enough = omega (arith, l.enough) }

-- THE INPUT: a whole term, its names, and what they come to
module _ {cap count : ℕ} {s out store : List ℕ} (lent : Lent cap out store) (levelled : Levelled cap s count) where
  abbrev input : Admitted cap s
  input = levelled.input

  few : nodes input.term ≤ cap
  few = (checked-given s input.passes).2

  low : height input.term ≤ most_height
  low = (checked-given s input.passes).1

  pub load_asks : (counts : List ℕ) → length counts ≡ count → Nameable s 0 store 0 counts 0
  load_asks counts long = record {
    term = input.term;
    stands = input.stands;
    inside = omega (arith, size-within input.stands, size_positive input.term);
    fits = omega (arith, few, lent.room);
    few = omega (arith, few, lent.in_bounds);
    low = omega (arith, low);
    deep = omega (arith, levelled.enough);
    countable = record { long = omega arith; few = λ k lt. absurd (omega arith) };
  }

  module _ {counts counts' : List ℕ} (long : length counts ≡ count) {read : Read} {mid : List ℕ}
      (reads : Reads s 0 store 0 counts 0 read mid counts') where
    pub some_read : 0 < read.used
    some_read = omega (arith, reads.made input.term input.stands, nodes_positive input.term)

    pub shrink_asks : Shrinkable mid (read.used - 1) read.used 0
    shrink_asks =
        let made = reads.made input.term input.stands in
        let heavy = weight-named 0 input.term in
        record {
          term = named 0 input.term;
          names = reads.names input.term input.stands;
          below = omega (arith, some_read);
          fits = omega (arith, few, lent.room, reads.same.as_long);
          few = omega (arith, few, lent.in_bounds);
          counted = omega (arith, few, lent.in_bounds);
        }

    module _ (limit : ℕ) {done : State} {end : List ℕ}
        (shrinks : Shrinks mid (read.used - 1) read.used 0 limit done end) where
      abbrev came : Came
      came = shrunk (may_follow limit) 0 (named 0 input.term)

      abbrev reached : Term
      reached = plain [] came.1

      begins : Scoped [] (named 0 input.term)
      unfolding levels
      begins = scoped-named 0 input.term input.small (omega (arith, low))

      -- the term reached is no larger than the input
      comes_there : eta_from (may_follow limit) (nodes input.term) 0 input.term ≡ (came.0, reached)
      unfolding levels
      comes_there =
          let same = plain-named 0 input.term in
          rw same at
          (eta-shrunk (may_follow limit) (nodes input.term) 0 [] (named 0 input.term) begins
          (omega (arith, ap nodes same)))

      no-larger : (nodes reached ≤ nodes input.term) × (height reached ≤ height input.term)
      no-larger =
          let run = eta-comes (may_follow limit) (nodes input.term) 0 input.term (omega arith) in
          let there = ap (λ c. c.1) comes_there in
          (rw there at (nodes-taken run.way.steps), rw there at (no_higher run.way.steps))

      scoped_there : Scoped [] came.1
      scoped_there = scoped-shrunk (may_follow limit) 0 [] (named 0 input.term) begins

      none-placed : Placed counts' []
      none-placed = record {
        placed = λ k among. absurd (among_none among refl);
        rising = λ k among. absurd (among_none among refl);
        low = omega arith;
      }

      pub write_asks : Writable end done.node out 0 counts' 0
      write_asks =
          let stands = shrinks.comes (named 0 input.term) (reads.names input.term input.stands) in
          let most = shrinks.most (named 0 input.term) (reads.names input.term input.stands) in
          let made = reads.made input.term input.stands in
          let heavy = weight-named 0 input.term in
          let (fewer, lower) = no-larger in
          record {
            term = came.1;
            around = [];
            names = stands.names;
            inside = omega (arith, stands.below, few, lent.room, reads.same.as_long, shrinks.same.as_long);
            scoped = scoped_there;
            deep = refl;
            low = omega (arith, low);
            placed = none-placed;
            levels = omega (
              arith,
              rise-shrunk (may_follow limit) 0 (named 0 input.term),
              rise-named 0 input.term,
              levelled.enough,
              (reads.counted input.term input.stands).as_long,
            );
            fits = omega (arith, nine_per_node reached, few, lent.output);
          }

      -- THE RUN: the steps, whether a place is left, and the bytes
      module _ {to : ℕ} {after counts'' : List ℕ}
          (writes : Writes end done.node out 0 counts' 0 to after counts'') where
        written : Puts out 0 (encode reached) to after
        written =
            let stands = shrinks.comes (named 0 input.term) (reads.names input.term input.stands) in
            writes.written came.1 [] stands.names scoped_there refl none-placed

        runs : eta limit input.term ≡ ended (by_left done.left) done.steps reached
        runs =
            let stands = shrinks.comes (named 0 input.term) (reads.names input.term input.stands) in
            rw (stands.steps, stands.left) (eta-whole limit input.term input.small low)
            ∙ sym (ended_left done.left _ _)

        pub at_end : {end' : End} → end' ≡ by_left done.left
            → Works (stored_run (run_on (checked cap s) (eta limit)) out) store
            (run_told (Ok (record { end = end'; steps = done.steps; length = to }))) after end
        unfolding run_told
        at_end {end'} is = record {
          stores = rw (input.passes, runs, is)
              (run-stored cap reached (omega (arith, no-larger.0, few)) lent.output written (by_left done.left) done.steps);
          as_long = shrinks.same.as_long ∙ reads.same.as_long;
        }

-- 1 AND 2, and the work after them
pub eta_lent : (limit cap : ℕ) (s out room : List ℕ)
    → eta_of limit cap s out room
    ≡ lent (refused_after 0) (cap_allowed cap) (suffice cap out room) cap
    (stored_run (run_on (checked cap s) (eta limit)) out) out room
unfolding eta_of
eta_lent limit cap s out room = refl
