-- The token at a place: how a name is looked up, and what the code's word says of the words ahead.
use Prim.Native.Nat.{ℕ, suc, ◌+◌, ◌≤◌, ◌<◌}
use mathlib.Core.Path.{◌≡◌, refl, sym, ap, ◌∙◌}
use mathlib.Core.Bool.{true, false}
use mathlib.Core.List.{List, [], ◌∷◌}
use Rattle.std.specs.Prelude.{Option, Some, None, Result, Ok, Err, ◌++◌}
use Rattle.std.proofs.lemmas.List.{get_or_default, length-append}
use native.Mathlib.Omega.{arith}
use lib.ListN.{length, get_or, drop, drop_of_length-le}
use lib.Seq.{drop-cons}
use Rattle.calculus.specs.Bounds.{most_text}
use Rattle.calculus.specs.Refusal.{Answer, given, refused, ◌then◌}
use Rattle.calculus.specs.Reading as notation
use Rattle.calculus.specs.Reading.{Notation, next}
use Rattle.calculus.specs.Words.{Word, ended, word, invalid, opening, closing, binder, number, name}
use Rattle.calculus.specs.Characters.{same_text}
use Rattle.calculus.specs.Walk.{Open, resolved}
use Rattle.words.specs.Places.{Clean, Placed, Inside, remains, name_of}
use Rattle.words.specs.declared.Cursor.{Cursor}
use Rattle.words.specs.declared.Name.{Name}
use Rattle.parser.specs.declared.tokens.Binder.{Binder}
use Rattle.term.specs.declared.Refusal.{Refusal}
use Rattle.term.specs.declared.Refusal.TheVariants.{UndefinedFreeVariable}
use Rattle.parser.specs.declared.tokens.Token.{Token}
use Rattle.words.proofs.Remaining.{remains_end}
use Rattle.words.specs.Ahead.{words_at}
use Rattle.words.proofs.Ahead.{ahead-word, ahead_end, ahead-invalid}
use Rattle.parser.specs.Opens.{name_at, binder_of, entry, opener, opens, Opened, found}
use Rattle.parser.specs.Tokens.{words_on, list_of, word_of, Valid, Onward}
use Rattle.parser.specs.Tokens.{MetIndex, MetOpening, MetClosing, MetEnd, MetRefused, Meets}
use Rattle.parser.proofs.Going.{goes_number, goes-name, goes_undefined}
use Rattle.parser.proofs.Openings.{is-group, is-named, past-group, is-binder, past-binder}

-- LOOKING UP A NAME, with so many of the innermost already passed
pub record Looks (s : List ℕ) (stack : List Binder) (x : List ℕ) (passed index : ℕ) : Type 0 where
  pub low : index ≤ passed + 1
  pub looks : resolved x 1 (opens s stack) ≡ resolved x index (opens s (drop passed stack))

pub looks_first : (s : List ℕ) (stack : List Binder) (x : List ℕ) → Looks s stack x 0 1
looks_first s stack x = record { low = omega arith; looks = refl }

-- a binder that is open has its name in the text
pub held_there : {s : List ℕ} {stack : List Binder} → Opened s stack → (n : ℕ) (w : Binder)
    → (n < length stack) × (w ≡ get_or stack n w) → (w.to ≡ 0 → ⊥) → Inside s (name_at w)
held_there {s} {stack} opened n w (there, same) some_after =
    let e : opener (get_or stack n (entry None)) ≡ Some w =
    ap opener (get_or_default stack n (entry None) w there ∙ sym same) ∙ is-named w some_after in
    (rw e at (opened.inside n there)).1

module _ {s : List ℕ} {stack : List Binder} {x : List ℕ} {index : ℕ} {B : Type 0} (given_so : List B)
    (so_far : Looks s stack x (length given_so) index) where
  one_more : (z : B) → length (given_so ++ z ∷ []) ≡ suc (length given_so)
  one_more z = omega (arith, length-append given_so (z ∷ []))

  -- nothing is left
  pub looked_all : length stack ≤ length given_so → found None ≡ resolved x 1 (opens s stack)
  unfolding opens resolved
  looked_all all = sym (so_far.looks ∙ rw (drop_of_length-le stack all))

  module _ (w : Binder) (t : (length given_so < length stack) × (w ≡ get_or stack (length given_so) w)) where
    here : resolved x 1 (opens s stack) ≡ resolved x index (opens s (w ∷ drop (suc (length given_so)) stack))
    here = so_far.looks ∙ ap (λ ws. resolved x index (opens s ws))
        (drop-cons stack (length given_so) w t.0 ∙ ap (λ y. y ∷ drop (suc (length given_so)) stack) (sym t.1))

    pub looks_past-group : w.to ≡ 0 → (z : B) → Looks s stack x (length (given_so ++ z ∷ [])) index
    looks_past-group e z = rw (one_more z) (record {
      low = omega (arith, so_far.low);
      looks = here ∙ past-group s x index _ w (is-group w e);
    })

    module _ (some_after : w.to ≡ 0 → ⊥) where
      pub looks_past-binder : same_text x (name_of s (name_at w)) ≡ false
          → (z : B) → Looks s stack x (length (given_so ++ z ∷ [])) (index + 1)
      looks_past-binder e z =
          let next-index : suc index ≡ index + 1 = omega arith in
          rw (one_more z) (record {
            low = omega (arith, so_far.low);
            looks = here ∙ rw next-index at (past-binder s x index (drop (suc (length given_so)) stack) w (is-named w some_after) e);
          })

      pub looked_up : same_text x (name_of s (name_at w)) ≡ true → found (Some index) ≡ resolved x 1 (opens s stack)
      looked_up e = sym (here ∙ is-binder s x index _ w (is-named w some_after) e)

-- THE WORDS AHEAD of a place whose words are valid
after-word : {w : Word} (here after : Answer (List Word)) → here ≡ (after then (λ ws. given (w ∷ ws)))
    → here ≡ given (list_of here) → (after ≡ given (list_of after)) × (list_of here ≡ w ∷ list_of after)
after-word here (given ws) e v = (refl, rw e)
after-word here (refused why) e v = let never : ◌≡◌ {A = ℕ} 0 1 = cc (sym e ∙ v) in absurd (omega arith)

-- at the end of the text nothing remains
ended_there : (n : Notation) (s : List ℕ) (at : ℕ) → length s ≤ at → next n (remains s at) ≡ ended
unfolding next
ended_there notation.de_bruijn s at h = rw (remains_end s at h)
ended_there notation.classic s at h = rw (remains_end s at h)

words-ended : (n : Notation) (s : List ℕ) (at : ℕ) → next n (remains s at) ≡ ended → words_on n s at ≡ []
unfolding words_on
words-ended n s at e = rw (ahead_end n s at e)

valid-ended : (n : Notation) (s : List ℕ) (at : ℕ) → next n (remains s at) ≡ ended → Valid n s at
unfolding words_on
valid-ended n s at e = record { valid = rw (ahead_end n s at e) }

module _ {n : Notation} {s : List ℕ} {at : ℕ} (valid : Valid n s at) (after : ℕ) (w : Word)
    (e : next n (remains s at) ≡ word w (remains s after)) where
  valid-after : Valid n s after
  unfolding words_on
  valid-after =
      record {
        valid = (after-word (words_at n s at) (words_at n s after) (ahead-word n s at after w e)
            valid.valid).0;
      }

  words-after : words_on n s at ≡ w ∷ words_on n s after
  unfolding words_on
  words-after = (after-word (words_at n s at) (words_at n s after) (ahead-word n s at after w e) valid.valid).1

-- an invalid character is not met
pub never_invalid : {n : Notation} {s : List ℕ} {at : ℕ} {after : Cursor} → Valid n s at → Clean s → Placed s after
    → next n (remains s at) ≡ invalid (remains s after.at) → ⊥
never_invalid {n} {s} {at} {after} valid clean placed e =
    let never : ◌≡◌ {A = ℕ} 0 1 = cc (sym (ahead-invalid n s at after clean placed e) ∙ valid.valid) in omega arith

step_to : {n : Notation} {s : List ℕ} {here after : Cursor} → Valid n s here.at → Placed s after
    → here.at ≤ after.at
    → (w : Word) → next n (remains s here.at) ≡ word w (remains s after.at) → Onward n s here after
step_to {after = after} valid placed forward w e =
    record { placed = placed; valid = valid-after valid after.at w e; forward = forward }

-- WHAT EACH WORD MEETS
module _ {n : Notation} {s : List ℕ} {os : List Open} {here after : Cursor} (valid : Valid n s here.at)
    (placed : Placed s after) (forward : here.at ≤ after.at) where
  pub meets-number : (i : ℕ) → here.at + 1 ≤ after.at
      → next n (remains s here.at) ≡ word (number i) (remains s after.at) → MetIndex n s os here i after
  meets-number i moved e = record {
    step = step_to valid placed forward (number i) e;
    moved = omega arith;
    goes = λ st ps. rw (words-after valid after.at (number i) e)
        (goes_number os (words_on n s after.at) st ps i);
  }

  module _ (x : List ℕ) {r : Option ℕ} (looked : found r ≡ resolved x 1 os)
      (e : next n (remains s here.at) ≡ word (name x) (remains s after.at)) where
    pub meets-name : {i : ℕ} → r ≡ Some i → here.at + 1 ≤ after.at → MetIndex n s os here i after
    meets-name {i} is moved = record {
      step = step_to valid placed forward (name x) e;
      moved = omega arith;
      goes = λ st ps. rw (words-after valid after.at (name x) e)
          (goes-name os (words_on n s after.at) st ps x i (sym looked ∙ ap found is));
    }

    pub meets_undefined : r ≡ None → MetRefused n s os here UndefinedFreeVariable
    meets_undefined is = record {
      goes = λ st ps. rw (words-after valid after.at (name x) e)
          (goes_undefined os (words_on n s after.at) st ps x (sym looked ∙ ap found is));
    }

  pub meets-left : here.at + 1 ≤ after.at → next n (remains s here.at) ≡ word opening (remains s after.at)
      → MetOpening n s os here None after
  unfolding word_of
  meets-left moved e = record {
    step = step_to valid placed forward opening e;
    moved = omega arith;
    inside = tt;
    ahead = words-after valid after.at opening e;
  }

  pub meets-binder : (x : Name) → here.at + 1 ≤ after.at → (0 < x.from) × Inside s x
      → next n (remains s here.at) ≡ word (binder (name_of s x)) (remains s after.at)
      → MetOpening n s os here (Some (binder_of x)) after
  unfolding word_of
  meets-binder x moved inside e = record {
    step = step_to valid placed forward (binder (name_of s x)) e;
    moved = omega arith;
    inside = inside;
    ahead = words-after valid after.at (binder (name_of s x)) e;
  }

  pub meets-right : next n (remains s here.at) ≡ word closing (remains s after.at) → MetClosing n s os here after
  meets-right e =
      record { step = step_to valid placed forward closing e; ahead = words-after valid after.at closing e }

  pub meets_end : next n (remains s here.at) ≡ ended → length s ≤ after.at → MetEnd n s os here after
  meets_end e h =
      let there = ended_there n s after.at h in
      record {
        step = record { placed = placed; valid = valid-ended n s after.at there; forward = forward };
        ahead = words-ended n s here.at e;
        last = words-ended n s after.at there;
      }

-- what was met, once its token is known
pub met-as : (n : Notation) (s : List ℕ) (os : List Open) (here : Cursor) {r : Result (Token × Cursor) Refusal}
    {k l : Token} {next : Cursor} → Meets n s os here r → r ≡ Ok (k, next) → k ≡ l → Meets n s os here (Ok (l, next))
met-as n s os here met was is = rw (was, is) at met

pub met-refused : (n : Notation) (s : List ℕ) (os : List Open) (here : Cursor) {r : Result (Token × Cursor) Refusal}
    {why : Refusal} → Meets n s os here r → r ≡ Err why → MetRefused n s os here why
met-refused n s os here met was = rw was at met

-- a binder's place fits
pub place-fits : {s : List ℕ} {x : Name} → Clean s → (0 < x.from) × Inside s x
    → (x.from ≤ most_text) × (x.to ≤ most_text)
place-fits clean (some_before, inside) =
    (omega (arith, inside.forward, inside.within, clean.short), omega (arith, inside.within, clean.short))
