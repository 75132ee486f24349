-- One turn of a sequence: what each token makes of what was read so far, up to the sequence's end.
use Prim.Native.Nat.{ℕ, ◌+◌, ◌*◌, ◌≤◌}
use mathlib.Core.Path.{◌≡◌, refl, ap, ◌∙◌}
use mathlib.Core.Bool.{Bool, true, false, true≢false}
use mathlib.Core.List.{List, []}
use mathlib.Core.Option.{none, some}
use native.Mathlib.Omega.{arith}
use Rattle.calculus.specs.Term.{var}
use Rattle.calculus.specs.Bounds.{most_text}
use Rattle.calculus.specs.Refusal.{refused}
use Rattle.std.specs.Prelude.{Result, Ok, Err}
use Rattle.term.specs.Answers.{refusal_of}
use Rattle.calculus.specs.Reading.{Notation}
use Rattle.calculus.specs.Words.{Word}
use Rattle.calculus.specs.Grammar.{Waits}
use Rattle.term.specs.declared.Refusal.{Refusal}
use Rattle.words.specs.Places.{Clean}
use Rattle.words.specs.declared.Cursor.{Cursor}
use Rattle.parser.specs.declared.tokens.Binder.{Binder}
use Rattle.nodes.specs.Store.{Same}
use Rattle.nodes.proofs.Keeping.{same_refl, same_then}
use Rattle.parser.specs.Opens.{opens, Opened}
use Rattle.parser.specs.States.{State, reading, void, beside, go, unless_void, ended}
use Rattle.parser.specs.Tokens.{words_on, Onward, MetIndex, MetClosing, MetEnd, MetRefused}
use Rattle.parser.specs.Building.{Means, nothing, Roomy, Enclosable, Extends}
use Rattle.parser.specs.Sequences.{Ready, Reaches, from_here, Comes, to_its_end, to_a_refusal, Reads}
use Rattle.parser.specs.declared.building.Built.{Built}
use Rattle.parser.specs.declared.building.Part.TheVariants as part
use Rattle.parser.specs.declared.sequences.Went.{Went}
use Rattle.parser.proofs.Meaning.{means-grows}

-- something empty before stays so
pub beside-void : (failed : Bool) (st inner : State)
    → beside (unless_void failed st) inner ≡ unless_void failed (beside st inner)
beside-void false st inner = refl
beside-void true st (reading none) = refl
beside-void true st (reading (some t)) = refl
beside-void true st void = refl

module _ (n : Notation) (s : List ℕ) (stack : List Binder) (store : List ℕ) (most : ℕ) (from : Cursor) (base : ℕ) where
  -- what a sequence has read up to a place
  pub record SoFar (stack' : List Binder) (store' : List ℕ) (here : Cursor) (read : Built) : Type 0 where
    pub state : State
    pub reaches : Reaches n s most from base here store' read state
    pub kept : stack' ≡ stack
    pub same : Same store store' base
    pub goes : (failed : Bool) (ps : List Waits)
        → from_here (opens s stack) (words_on n s from.at) failed (reading none) ps
        ≡ from_here (opens s stack) (words_on n s here.at) failed state ps

  pub at_first : Ready n s stack store most from base
      → SoFar stack store from (record { part = part.Nothing; used = base })
  at_first ready = record {
    state = reading none;
    reaches = record {
      step = record { placed = ready.placed; valid = ready.valid; forward = omega arith };
      spent = omega arith;
      means = nothing refl;
    };
    kept = refl;
    same = same_refl store base;
    goes = λ failed ps. refl;
  }

module _ {n : Notation} {s : List ℕ} {stack : List Binder} {store : List ℕ} {most : ℕ}
    {from : Cursor} {base : ℕ} {stack' : List Binder} {store' : List ℕ} {here : Cursor} {read : Built}
    (so_far : SoFar n s stack store most from base stack' store' here read) where
  pub same-open : opens s stack' ≡ opens s stack
  same-open = ap (opens s) so_far.kept

  -- an item was read
  pub one_item : {stack'' : List Binder} {store'' : List ℕ} {after : Cursor} (more : Built) (inner : State) → Onward n s here after
      → more.used + 2 * here.at ≤ read.used + 2 * after.at → stack'' ≡ stack'
      → Same store' store'' read.used
      → Means store'' most base more.used more.part (beside so_far.state inner)
      → ((st : State) (ps : List Waits) → go (opens s stack) (words_on n s here.at) st ps
      ≡ go (opens s stack) (words_on n s after.at) (beside st inner) ps)
      → SoFar n s stack store most from base stack'' store'' after more
  one_item {after = after} more inner step spent kept same means goes = record {
    state = beside so_far.state inner;
    reaches = record {
      step = record {
        placed = step.placed;
        valid = step.valid;
        forward = omega (arith, so_far.reaches.step.forward, step.forward);
      };
      spent = omega (arith, so_far.reaches.spent);
      means = means;
    };
    kept = kept ∙ so_far.kept;
    same = same_then (means-grows so_far.reaches.means) so_far.same same;
    goes = λ failed ps.
        so_far.goes failed ps ∙ goes (unless_void failed so_far.state) ps
        ∙ ap (λ (st : State). go (opens s stack) (words_on n s after.at) st ps)
        (beside-void failed so_far.state inner);
  }

  -- A VARIABLE
  pub variable-read : {store'' : List ℕ} {after : Cursor} {i : ℕ} {more : Built}
      → MetIndex n s (opens s stack') here i after → Extends store' most read i store'' more
      → SoFar n s stack store most from base stack' store'' after more
  variable-read {i = i} {more = more} met extends =
      one_item more (reading (some (var i))) met.step (omega (arith, met.moved, extends.adds.most_added))
      refl extends.adds.same (extends.means base so_far.state so_far.reaches.means)
      (rw same-open at met.goes)

  -- what was open, and the nodes made before, stay
  reads_so : {r : Result Went Refusal} → Comes n s (opens s stack) most from base store' r
      → Reads n s stack store most from base r stack' store'
  reads_so comes = record { comes = comes; kept = so_far.kept; same = so_far.same }

  -- THE END
  at_its_end : {after : Cursor} (closed : Bool) → Onward n s here after
      → (closed ≡ false → words_on n s after.at ≡ [])
      → words_on n s here.at ≡ ended closed (words_on n s after.at)
      → Comes n s (opens s stack) most from base store' (Ok (record { read = read; here = after; closed = closed }))
  at_its_end {after} closed step last ahead =
      to_its_end {went = record { read = read; here = after; closed = closed }} (record {
        state = so_far.state;
        reaches = record {
          step = record {
            placed = step.placed;
            valid = step.valid;
            forward = omega (arith, so_far.reaches.step.forward, step.forward);
          };
          spent = omega (arith, so_far.reaches.spent, step.forward);
          means = so_far.reaches.means;
        };
        last = last;
        goes = λ failed ps. so_far.goes failed ps
            ∙ ap (λ (ws : List Word). go (opens s stack) ws (unless_void failed so_far.state) ps) ahead;
      })

  module _ {after : Cursor} where
    pub closed-here : MetClosing n s (opens s stack') here after
        → Reads n s stack store most from base (Ok (record { read = read; here = after; closed = true })) stack'
        store'
    closed-here met = reads_so (at_its_end true met.step (λ e. absurd (true≢false e)) met.ahead)

    pub ended_here : MetEnd n s (opens s stack') here after
        → Reads n s stack store most from base (Ok (record { read = read; here = after; closed = false })) stack'
        store'
    ended_here met = reads_so (at_its_end false met.step (λ e. met.last) met.ahead)

  -- A REFUSAL at the token
  pub stops : (e : Refusal)
      → ((st : State) (ps : List Waits) → go (opens s stack) (words_on n s here.at) st ps ≡ refused (refusal_of e))
      → (failed : Bool) (ps : List Waits)
      → go (opens s stack) (words_on n s from.at) (unless_void failed (reading none)) ps ≡ refused (refusal_of e)
  stops e goes failed ps = so_far.goes failed ps ∙ goes (unless_void failed so_far.state) ps

  pub refused_here : {why : Refusal} → MetRefused n s (opens s stack') here why
      → Reads n s stack store most from base (Err why) stack' store'
  refused_here {why} met = reads_so (to_a_refusal (stops why (rw same-open at met.goes)))

  -- WHAT OPENS asks what its sequence asked
  module _ (clean : Clean s) (ready : Ready n s stack store most from base) where
    pub few_used : read.used ≤ 2 * most_text
    few_used = omega (
      arith,
      so_far.reaches.spent,
      ready.few,
      so_far.reaches.step.placed.inside,
      clean.short,
    )

    pub roomy-here : Roomy store' most read.used
    roomy-here = record {
      in_bounds = ready.roomy.in_bounds;
      room = omega (arith, ready.roomy.room, so_far.same.as_long);
      few = omega (arith, few_used);
    }

    pub enclosable-here : Enclosable store' most read
    enclosable-here = record { base = base; state = so_far.state; means = so_far.reaches.means }

    pub opened-here : Opened s stack'
    opened-here = rw so_far.kept ready.opened

    pub ready-inside : {after : Cursor} → Onward n s here after → Ready n s stack' store' most after read.used
    ready-inside step = record {
      placed = step.placed;
      valid = step.valid;
      opened = opened-here;
      roomy = roomy-here;
      few = omega (arith, so_far.reaches.spent, ready.few, step.forward);
    }
