-- A word that is none of those in the tables.
use Rattle.std.specs.Prelude.{ℕ, ◌≡◌, false, List, [], ◌∷◌}
use Rattle.std.proofs.Common.{sym, ◌∙◌}
use Rattle.std.proofs.Math.Option.{none}
use lib.Dec.{eqb}
use lib.Pointwise.{pointwise}
use Rattle.calculus.specs.Characters.{same_text}
use Rattle.calculus.specs.Program.{look_up, order_words, notation_words}
use Rattle.words.proofs.SameNames.{same_text-pointwise}

-- the word is not these three letters
abbrev pub IsNot : (w : List ℕ) (x y z : ℕ) → Type 0
IsNot w x y z = pointwise eqb w (x ∷ y ∷ z ∷ []) ≡ false

other : (w : List ℕ) (x y z : ℕ) → IsNot w x y z → same_text w (x ∷ y ∷ z ∷ []) ≡ false
other w x y z e = sym (same_text-pointwise w (x ∷ y ∷ z ∷ [])) ∙ e

module _ (w : List ℕ) where
  pub no_notation : IsNot w 100 98 114 → IsNot w 99 108 97 → look_up notation_words w ≡ none
  unfolding look_up notation_words
  no_notation dbr cla = rw (other _ _ _ _ dbr, other _ _ _ _ cla)

  pub no_order : IsNot w 67 66 78 → IsNot w 72 83 80 → IsNot w 67 66 86 → IsNot w 65 80 80 → IsNot w 78 79 82
      → IsNot w 72 78 79 → IsNot w 72 65 80 → look_up order_words w ≡ none
  unfolding look_up order_words
  no_order cbn hsp cbv app nor hno hap =
      rw (other _ _ _ _ cbn, other _ _ _ _ hsp, other _ _ _ _ cbv, other _ _ _ _ app, other _ _ _ _ nor, other _ _ _ _ hno, other _ _ _ _ hap)

pub ruleset unnamed = (no_notation, no_order)
