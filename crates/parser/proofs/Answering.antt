-- From the sequences to what `parse` answers: the walk of the whole text, 3 to 9 in their order, and 1 and 2 before.
use Prim.Native.Nat.{ℕ}
use mathlib.Core.Path.{◌≡◌, refl, sym, ◌∙◌}
use mathlib.Core.Bool.{Bool, true, false}
use mathlib.Core.List.{List, []}
use mathlib.Core.Option.{none}
use native.Mathlib.Omega.{arith}
use lib.ListN.{length}
use borrow.Author.Tests.{le-leb}
use Rattle.calculus.specs.Term.{Term}
use Rattle.calculus.specs.Bounds.{most_text}
use Rattle.calculus.specs.Refusal.{Answer, given, refused, ◌then◌}
use Rattle.calculus.specs.Characters.{characters}
use Rattle.calculus.specs.Words.{Word, words}
use Rattle.calculus.specs.Walk.{walk}
use Rattle.calculus.specs.Judging.{within}
use Rattle.calculus.specs.Reading.{Notation, next, characters_of, read_text}
use Rattle.calculus.specs.Outcomes.{stored, coded, lent, cap_allowed, suffice, parse_of}
use Rattle.term.specs.Answers.{refusal_of, told}
use Rattle.term.specs.declared.Refusal.{Refusal}
use Rattle.words.specs.Places.{Clean, remains}
use Rattle.words.specs.Judging.{Judges, is_fine, is_refused}
use Rattle.words.specs.declared.Cursor.{Cursor}
use Rattle.words.specs.declared.text.Text.{Text}
use Rattle.words.specs.Ahead.{words_at}
use Rattle.words.proofs.Ahead.{ahead-start}
use Rattle.nodes.specs.Lending.{Lent}
use Rattle.nodes.specs.Working.{Works}
use Rattle.parser.specs.Opens.{opens}
use Rattle.parser.specs.States.{State, reading, parsed_on, go, ended}
use Rattle.parser.specs.Tokens.{words_on, Valid}
use Rattle.parser.specs.Sequences.{Ready, Ends, Comes, to_its_end, to_a_refusal, Reads}
use Rattle.parser.specs.Parsing.{Stores, Storable, Saves}
use Rattle.parser.specs.declared.sequences.Went.{Went}
use Rattle.std.specs.Prelude.{Result, Ok, Err}
use Rattle.parser.specs.declared.tokens.Binder.{Binder}

abbrev start : Cursor
start = record { at = 0; chars = 0 }

-- THE WHOLE TEXT is one sequence, with nothing open
pub ready-first : {n : Notation} {s : List ℕ} {most : ℕ} {out store : List ℕ} → Lent most out store → Valid n s 0
    → Ready n s [] store most start 0
unfolding remains
ready-first lent valid = record {
  placed = record { inside = omega arith; fewer = omega arith; counted = omega arith };
  valid = valid;
  opened = record { few = omega arith; inside = λ k lt. absurd (omega arith) };
  roomy = record { in_bounds = lent.in_bounds; room = omega (arith, lent.room); few = omega arith };
  few = omega arith;
}

-- where it ends, the text ends
ends_there : (closed : Bool) (ws : List Word) (st : State) → go [] (ended closed ws) st [] ≡ parsed_on [] st []
unfolding go walk
ends_there true ws st = refl
ends_there false ws st = refl

-- a refusal takes the place of all that would follow
refused-stores : {answer : Answer Term} (e : Refusal) (out : List ℕ) → answer ≡ refused (refusal_of e)
    → Stores answer out (Err e) out
refused-stores e out is = rw is

module _ {n : Notation} {s : List ℕ} {most : ℕ} {store : List ℕ}
    {r : Result Went Refusal} {stack' : List Binder} {store' : List ℕ}
    (reads : Reads n s [] store most start 0 r stack' store') where
  comes_to : Comes n s [] most start 0 store' r
  unfolding opens
  comes_to = reads.comes

  pub works_stopped : (e : Refusal) (out : List ℕ) → r ≡ Err e
      → Works (stored (go [] (words_on n s 0) (reading none) [] then within most then coded) out) store
      (told {A = ℕ} (Err e)) out store'
  works_stopped e out is = record {
    stores = refused-stores e out
        (stopped (rw is at comes_to));
    as_long = reads.same.as_long;
  }
    where
      stopped : Comes n s [] most start 0 store' (Err e)
          → (go [] (words_on n s 0) (reading none) [] then within most) ≡ refused (refusal_of e)
      stopped (to_a_refusal goes) = rw (goes false [])

  module _ (went : Went) (is : r ≡ Ok went) where
    ends : Ends n s [] most start 0 store' went.read went.here went.closed
    ends = end_of (rw is at comes_to)
      where
        end_of : Comes n s [] most start 0 store' (Ok went)
            → Ends n s [] most start 0 store' went.read went.here went.closed
        end_of (to_its_end e) = e

    pub storable : {out : List ℕ} → Lent most out store → Storable store' most went.read out
    storable lent = record {
      lent = record {
        in_bounds = lent.in_bounds;
        output = lent.output;
        room = reads.same.as_long ∙ lent.room;
      };
      state = ends.state;
      means = ends.reaches.means;
    }

    pub works_on : {out after : List ℕ} {p : Result ℕ Refusal} → Saves store' most went.read out p after
        → Works (stored (go [] (words_on n s 0) (reading none) [] then within most then coded) out) store (told p) after store'
    works_on saves =
        let whole : go [] (words_on n s 0) (reading none) [] ≡ parsed_on [] ends.state [] =
        ends.goes false [] ∙ ends_there went.closed (words_on n s went.here.at) ends.state in
        record { stores = rw whole (saves.saves ends.state ends.reaches.means); as_long = reads.same.as_long }

-- 3, 4 AND 5 PASS
characters-clean : {s : List ℕ} → Clean s → characters_of s ≡ given (characters s)
unfolding characters_of
characters-clean {s} clean = rw (le-leb (length s) most_text clean.short, clean.domain)

module _ (n : Notation) (s : List ℕ) {text : Text} where
  is-clean : Judges n s (Ok text) → Clean s
  is-clean (is_fine clean is e) = clean

  is-text : Judges n s (Ok text) → text.bytes.now ≡ s
  is-text (is_fine clean is e) = is

  words_there : Judges n s (Ok text) → (ws : List Word) × (words_at n s 0 ≡ given ws)
  words_there (is_fine {ws} clean is e) = (ws, ahead-start n s ∙ rw (characters-clean clean) at e)

  pub is-valid : Judges n s (Ok text) → Valid n text.bytes.now 0
  unfolding words_on
  is-valid fine = rw (is-text fine) (record { valid = rw (words_there fine).1 })

  -- then the rest is what was read
  reads-text : (most : ℕ) → Judges n s (Ok text)
      → (go [] (words_on n s 0) (reading none) [] then within most) ≡ read_text n most s
  unfolding read_text go words_on
  reads-text most fine =
      let there = words_there fine in
      let same : words (next n) (characters s) ≡ given there.0 = sym (ahead-start n s) ∙ there.1 in
      rw (there.1, characters-clean (is-clean fine), same)

  pub works-text : (most : ℕ) (out : List ℕ) {store after store' : List ℕ} (p : Result ℕ Refusal) → Judges n s (Ok text)
      → Works (stored (go [] (words_on n text.bytes.now 0) (reading none) [] then within most then coded) out) store (told p) after store'
      → Works (stored (read_text n most s then coded) out) store (told p) after store'
  works-text most out p fine works = rw (is-text fine, reads-text most fine) at works

-- or the first of them is the answer
module _ (n : Notation) (s : List ℕ) where
  judged-refused : (most : ℕ) (e : Refusal) → Judges n s (Err e)
      → read_text n most s ≡ refused (refusal_of e)
  unfolding read_text
  judged-refused most e (is_refused is) = rw is

  pub works-refused : (most : ℕ) (e : Refusal) (out store : List ℕ) → Judges n s (Err e)
      → Works (stored (read_text n most s then coded) out) store (told {A = ℕ} (Err e)) out store
  works-refused most e out store refuses =
      record { stores = refused-stores e out (judged-refused most e refuses); as_long = refl }

-- 1 AND 2, and the work after them
pub parse_lent : (n : Notation) (cap : ℕ) (text out room : List ℕ)
    → parse_of n cap text out room
    ≡ lent refused (cap_allowed cap) (suffice cap out room) cap (stored (read_text n cap text then coded) out) out room
unfolding parse_of
parse_lent n cap text out room = refl
