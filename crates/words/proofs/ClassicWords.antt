-- The word at a place in classic notation, by the byte there.
use Prim.Native.Nat.{ℕ, ◌≤◌, ◌<◌}
use mathlib.Core.Path.{◌≡◌, refl, ap, ap₂, sym, ◌∙◌}
use mathlib.Core.Bool.{Bool, true, false, cond}
use mathlib.Core.List.{List, [], ◌∷◌, ◌++◌}
use native.Mathlib.Omega.{arith}
use lib.Dec.{eqb}
use lib.ListN.{length, get_or}
use borrow.Author.Tests.{ne_eqb}
use Rattle.calculus.specs.Words.{Word, Next, ended, word, invalid, binder, name, start, rest}
use Rattle.calculus.specs.Classic.{letter, strange, glyph, is_letter, is_figure, in_binder, in_name}
use Rattle.calculus.specs.Classic.{binder_ended, binder_at, word_at, first_word}
use Rattle.words.specs.Places.{Placed, remains, char_of, name_of, Inside}
use Rattle.words.specs.Runs.{Over}
use Rattle.words.specs.Steps.{Tells}
use Rattle.words.specs.declared.Cursor.{Cursor}
use Rattle.words.specs.declared.Name.{Name}
use Rattle.words.specs.declared.Step.{Step}
use Rattle.words.specs.declared.Word.TheVariants.{Binder, Named, Invalid}
use Rattle.words.proofs.Remaining.{remains_end, between-places}
use Rattle.words.proofs.Passing.{Stands, Past, past-told, past-further, first_char, run_splits}
use Rattle.words.proofs.Tables.{figure_char, dot_char, glyph-classic}
use Rattle.words.proofs.Telling.{Moves, one_taken, goes, no_name, unnamed-inside, Wrong, wrong_here}

-- A BINDER IS NOT THE END
neither_ends : (b : Bool) {x y : Next} → (x ≡ ended → ⊥) → (y ≡ ended → ⊥) → cond b x y ≡ ended → ⊥
neither_ends true f g e = f e
neither_ends false f g e = g e

word-no_end : {w : Word} {cs : List ℕ} → word w cs ≡ ended → ⊥
word-no_end e = let never : ◌≡◌ {A = ℕ} 0 1 = cc e in omega arith

invalid-no_end : {cs : List ℕ} → invalid cs ≡ ended → ⊥
invalid-no_end e = let never : ◌≡◌ {A = ℕ} 0 1 = cc e in omega arith

named-goes_on : (x cs : List ℕ) → binder_ended x cs ≡ ended → ⊥
unfolding binder_ended
named-goes_on x [] = word-no_end
named-goes_on x (c ∷ cs) = neither_ends (eqb c 46) word-no_end invalid-no_end

binder-goes_on : (cs : List ℕ) → binder_at cs ≡ ended → ⊥
unfolding binder_at
binder-goes_on [] = word-no_end
binder-goes_on (c ∷ cs) =
    neither_ends (is_figure c) invalid-no_end (named-goes_on (start in_binder (c ∷ cs)) (rest in_binder (c ∷ cs)))

-- AT THE START OF A WORD, by the byte
module _ (b : ℕ) (byte : b < 256) where
  first-letter : is_letter b ≡ true → (cs : List ℕ)
      → first_word (char_of b ∷ cs) ≡ word (name (char_of b ∷ start in_name cs)) (rest in_name cs)
  unfolding first_word word_at
  first-letter is cs = let g : glyph (char_of b) ≡ letter = glyph-classic b byte ∙ rw is in rw g

  pub first_wrong : is_letter b ≡ false → (b ≡ 92 → ⊥) → (b ≡ 206 → ⊥) → (b ≡ 40 → ⊥) → (b ≡ 41 → ⊥)
      → Wrong first_word (char_of b)
  unfolding first_word word_at
  first_wrong other n₁ n₂ n₃ n₄ cs =
      let g : glyph (char_of b) ≡ strange =
      glyph-classic b byte ∙ rw (other, ne_eqb b 92 n₁, ne_eqb b 206 n₂, ne_eqb b 40 n₃, ne_eqb b 41 n₄) in
      rw g

-- and by its place and the place after it
module _ {s : List ℕ} {here r : Cursor} (stands : Stands s here) (past : Past s here r) where
  -- a lambda before its binder
  pub first-binder : first_word (char_of (get_or s here.at 0) ∷ remains s r.at) ≡ binder_at (remains s r.at)
      → {step : Step} → Tells s r (binder_at (remains s r.at)) step
      → Moves s here (first_word (remains s here.at)) step
  first-binder e {step} t =
      let after = past-further stands past in (
        record {
          placed = t.placed;
          forward = omega (arith, t.forward);
          names = t.names;
          tells = ap first_word (first_char stands past) ∙ e ∙ t.tells;
        },
        omega (arith, t.forward, one_taken step.word),
        λ is. absurd (binder-goes_on (remains s r.at) (t.tells ∙ rw is)),
      )

  -- a name, of which the first letter stands here
  pub first-name : {end : Cursor} → Over s in_name r end → is_letter (get_or s here.at 0) ≡ true
      → Moves s here (first_word (remains s here.at))
      (record { word = Named (record { from = here.at; to = end.at }); next = end })
  first-name {end} over is =
      let b : ℕ = get_or s here.at 0 in
      let after : here.at < end.at = omega (arith, past-further stands past, over.forward) in
      let x : List ℕ = char_of b ∷ start in_name (remains s r.at) in
      let splits : remains s here.at ≡ x ++ remains s end.at =
      first_char stands past ∙ ap (λ cs. char_of b ∷ cs) (run_splits s in_name r.at end.at over.after) in
      let named = between-places s x here.at end.at stands.0 (omega arith) over.placed.inside splits in
      goes over.placed after (Named (record { from = here.at; to = end.at })) refl
      (record { forward = omega arith; within = over.placed.inside })
      (ap first_word (first_char stands past)
      ∙ first-letter b (stands.0.only_bytes here.at) is (remains s r.at)
      ∙ ap₂ (λ x cs. word (name x) cs) (sym named) over.after)

-- THE BINDER after a lambda: the text ends
pub binder-none : {s : List ℕ} {from : Cursor} → Placed s from → 0 < from.at → length s ≤ from.at
    → {x : Name} → (x.from ≡ from.at) × (x.to ≡ from.at)
    → Tells s from (binder_at (remains s from.at)) (record { word = Binder x; next = from })
unfolding binder_at
binder-none {s} {from} placed h k same =
    let none = remains_end s from.at k in
    record {
      placed = placed;
      forward = omega arith;
      names = unnamed-inside h placed same;
      tells = rw none (ap (λ x. word (binder x) []) (no_name s same));
    }

-- a name starts with a figure
figure-first : (c : ℕ) → is_figure c ≡ true → Wrong binder_at c
unfolding binder_at
figure-first c e cs = rw e

pub binder-figure : {s : List ℕ} {from : Cursor} → Stands s from → is_figure (get_or s from.at 0) ≡ true
    → Tells s from (binder_at (remains s from.at)) (record { word = Invalid; next = from })
binder-figure {s} {from} stands e =
    let is = figure_char (get_or s from.at 0) (stands.0.only_bytes from.at) ∙ e in
    record {
      placed = stands.1;
      forward = omega arith;
      names = tt;
      tells = wrong_here binder_at stands (figure-first _ is);
    }

-- a name starts with none, and runs to a place
other_first : (c : ℕ) (cs : List ℕ) → is_figure c ≡ false
    → binder_at (c ∷ cs) ≡ binder_ended (start in_binder (c ∷ cs)) (rest in_binder (c ∷ cs))
unfolding binder_at
other_first c cs e = rw e

module _ {s : List ℕ} {from end : Cursor} (stands : Stands s from) (other : is_figure (get_or s from.at 0) ≡ false)
    (over : Over s in_binder from end) where
  abbrev bound : Name
  bound = record { from = from.at; to = end.at }

  ended_by : binder_at (remains s from.at) ≡ binder_ended (name_of s bound) (remains s end.at)
  ended_by =
      let first = first_char stands (past-told stands refl) in
      let is = figure_char (get_or s from.at 0) (stands.0.only_bytes from.at) ∙ other in
      ap binder_at first
      ∙ other_first _ _ is
      ∙ ap (λ cs. binder_ended (start in_binder cs) (rest in_binder cs)) (sym first)
      ∙ ap₂ binder_ended over.run over.after

  inside : Inside s bound
  inside = record { forward = over.forward; within = over.placed.inside }

  -- the end of the text
  pub binder-last : 0 < from.at → length s ≤ end.at
      → Tells s from (binder_at (remains s from.at)) (record { word = Binder bound; next = end })
  unfolding binder_ended
  binder-last h k =
      record {
        placed = over.placed;
        forward = over.forward;
        names = (h, inside);
        tells = ended_by ∙ rw (remains_end s end.at k);
      }

  module _ (h : end.at < length s) where
    after : Stands s end
    after = (stands.0, over.placed, h)

    -- a dot
    pub binder_dot : {r : Cursor} → Past s end r → get_or s end.at 0 ≡ 46 → 0 < from.at
        → Tells s from (binder_at (remains s from.at)) (record { word = Binder bound; next = r })
    unfolding binder_ended
    binder_dot past e k =
        record {
          placed = past.1;
          forward = omega (arith, over.forward, past-further after past);
          names = (k, inside);
          tells = ended_by ∙ rw (first_char after past, e);
        }

    -- another character
    pub binder_wrong : (get_or s end.at 0 ≡ 46 → ⊥)
        → Tells s from (binder_at (remains s from.at)) (record { word = Invalid; next = end })
    unfolding binder_ended
    binder_wrong n =
        let b : ℕ = get_or s end.at 0 in
        let dot = dot_char b (stands.0.only_bytes end.at) in
        record {
          placed = over.placed;
          forward = over.forward;
          names = tt;
          tells = ended_by ∙ wrong_here (binder_ended (name_of s bound)) after (λ cs. rw (dot, ne_eqb b 46 n));
        }
