-- The pieces of a text, in the style in which a term is written.
use Rattle.std.specs.Prelude.{ℕ, zero, suc, ◌/◌, ◌%◌, ◌^◌, List, [], ◌∷◌}
use Rattle.calculus.specs.Numbers.{figure}
use Rattle.calculus.specs.Characters.{bytes}
use Rattle.calculus.specs.Writing.{Layout, binder_text, in_characters}
use Rattle.term.specs.Notations.{notation_of}
use Rattle.printer.specs.declared.pieces.Style.{Style}

-- the lowest hex digits of a number, so many, the highest of them first
unfoldable pub figures : (count : ℕ) → ℕ → List ℕ
figures zero n = []
figures (suc k) n = figure (n / 16 ^ k % 16) ∷ figures k n

-- the layout for a style: its notation's, with the most abstractions on a path
abbrev pub layout_of : Style → Layout ℕ
layout_of w = in_characters (notation_of w.notation) w.most

abbrev pub variable_of : Style → (d index : ℕ) → List ℕ
variable_of w = (layout_of w).variable

-- a binder is the one piece that has the sign, whose bytes are two
unfoldable pub binder_of : Style → (d : ℕ) → List ℕ
unfolding bytes binder_text
binder_of w d = bytes ((layout_of w).binder d)

abbrev pub gap_of : Style → List ℕ
gap_of w = (layout_of w).gap
