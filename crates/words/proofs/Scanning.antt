-- A scan over the words of a text: what is known of them all at each place that it reaches.
use Prim.Native.Nat.{ℕ, ◌<◌}
use mathlib.Core.Path.{◌≡◌, refl, ap, sym, ◌∙◌}
use mathlib.Core.List.{List, ◌∷◌}
use native.Mathlib.Omega.{arith}
use lib.ListN.{length, get_or}
use Rattle.calculus.specs.Characters.{characters}
use Rattle.calculus.specs.Refusal.{Answer, given, refused, ◌then◌}
use Rattle.calculus.specs.Words as calculus
use Rattle.calculus.specs.Words.{words}
use Rattle.calculus.specs.Reading.{Notation, next}
use Rattle.term.specs.declared.Refusal.TheVariants.{InvalidCharacter}
use Rattle.words.specs.Places.{Clean, Placed, remains, char_of}
use Rattle.words.specs.Steps.{told, taken, Tells}
use Rattle.words.specs.Judging.{Worded, is_fine, is_refused}
use Rattle.words.specs.declared.Cursor.{Cursor}
use Rattle.words.specs.declared.Step.{Step}
use Rattle.words.specs.declared.Word.{Word}
use Rattle.words.specs.declared.Word.TheVariants.{End, Binder, Left, Right, Number, Named, Invalid}
use Rattle.std.specs.Prelude.{Ok, Err}
use Rattle.term.specs.declared.Refusal.{Refusal}
use Rattle.words.specs.declared.text.Text.{Text}
use Rattle.words.specs.Ahead.{words_at}
use Rattle.words.proofs.Ahead.{ahead-start, ahead-word, ahead_end, ahead-invalid, invalid-inside}

-- the words of the text are those ahead of the place, after some that were read
pub record Reached (n : Notation) (s : List ℕ) (here : Cursor) : Type 0 where
  pub placed : Placed s here
  pub after_read : List calculus.Word → List calculus.Word
  pub whole : words (next n) (characters s) ≡ (words_at n s here.at then (λ ws. given (after_read ws)))

then_given : {A : Type 0} (x : Answer A) → x ≡ (x then given)
then_given (given a) = refl
then_given (refused e) = refl

then_then : {A B C : Type 0} (x : Answer A) (f : A → B) (g : B → C)
    → (x then (λ a. given (f a)) then (λ b. given (g b))) ≡ (x then (λ a. given (g (f a))))
then_then (given a) f g = refl
then_then (refused e) f g = refl

pub reached-start : (n : Notation) (s : List ℕ) → Reached n s (record { at = 0; chars = 0 })
unfolding remains
reached-start n s =
    record {
      placed = record { inside = omega arith; fewer = omega arith; counted = omega arith };
      after_read = λ ws. ws;
      whole = sym (ahead-start n s) ∙ then_given (words_at n s 0);
    }

-- a case of the code's words that takes a byte tells a word
told-word : (s : List ℕ) (x : Word) (cs : List ℕ) → taken x ≡ 1
    → (w : calculus.Word) × (told s x cs ≡ calculus.word w cs)
told-word s End cs e = absurd (omega arith)
told-word s (Binder x) cs e = (_, refl)
told-word s Left cs e = (_, refl)
told-word s Right cs e = (_, refl)
told-word s (Number i) cs e = (_, refl)
told-word s (Named x) cs e = (_, refl)
told-word s Invalid cs e = absurd (omega arith)

-- WHAT EACH STEP TELLS
module _ {n : Notation} {s : List ℕ} {here : Cursor} {r : Step} (reached : Reached n s here)
    (tells : Tells s here (next n (remains s here.at)) r) where
  pub reached-next : taken r.word ≡ 1 → Reached n s r.next
  reached-next e =
      let (w, f) = told-word s r.word (remains s r.next.at) e in
      record {
        placed = tells.placed;
        after_read = λ ws. reached.after_read (w ∷ ws);
        whole =
            reached.whole
            ∙ ap (λ x. x then (λ ws. given (reached.after_read ws)))
            (ahead-word n s here.at r.next.at w (tells.tells ∙ f))
            ∙ then_then (words_at n s r.next.at) (λ ws. w ∷ ws) reached.after_read;
      }

  by_case : (x : Word) → r.word ≡ x → next n (remains s here.at) ≡ told s x (remains s r.next.at)
  by_case x e = tells.tells ∙ ap (λ x. told s x (remains s r.next.at)) e

  pub reached_end : {text : Text} → Clean s → text.bytes.now ≡ s → r.word ≡ End → Worded n s (Ok text)
  reached_end clean is e =
      is_fine clean is
      (reached.whole
      ∙ ap (λ x. x then (λ ws. given (reached.after_read ws))) (ahead_end n s here.at (by_case End e)))

  -- an invalid character stands there
  module _ (invalid : r.word ≡ Invalid) where
    pub next-inside : r.next.at < length s
    next-inside = invalid-inside n s here.at r.next.at (by_case Invalid invalid)

    pub reached-invalid : {why : Refusal} → Clean s
        → why ≡ InvalidCharacter r.next.chars (char_of (get_or s r.next.at 0)) → Worded n s (Err why)
    reached-invalid clean e =
        let refusal = ahead-invalid n s here.at r.next clean tells.placed (by_case Invalid invalid) in
        rw e
        (is_refused (reached.whole ∙ ap (λ x. x then (λ ws. given (reached.after_read ws))) refusal))
