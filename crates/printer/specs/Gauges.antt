-- What the walk over any bytes finds out: a term where it says so, and no less room than its text takes.
use Rattle.std.specs.Prelude.{ℕ, ◌+◌, ◌*◌, ◌≤◌, max, ◌≡◌, List, length, drop, Option, Some}
use Rattle.calculus.specs.Term.{Term, nodes, height}
use Rattle.calculus.specs.Bounds.{most_nodes, most_height}
use Rattle.calculus.specs.Refusal.{given}
use Rattle.calculus.specs.Bytes.{found}
use Rattle.calculus.specs.Queries.{max_depth}
use Rattle.calculus.specs.Writing.{write_text}
use Rattle.calculus.specs.Outcomes.{checked}
use Rattle.calculus.proofs.Decoding.{first}
use Rattle.term.specs.Notations.{notation_of}
use Rattle.term.specs.declared.Notation.{Notation}
use Rattle.printer.specs.Pieces.{variable_of, binder_of}
use Rattle.printer.specs.Parts.{part_text}
use Rattle.printer.specs.declared.pieces.Style.{Style}
use Rattle.printer.specs.declared.Part.{Part}
use Rattle.printer.specs.declared.gauging.Gauge.{Gauge}
use Rattle.printer.specs.declared.gauging.Counts.{Counts}

-- a style by its two parts, of which the second is not known during the walk
abbrev pub style_by : Notation → ℕ → Style
style_by n m = record { notation = n; most = m }

pub record VariableRoom (n : Notation) (d i r : ℕ) : Type 0 where
  pub covers : (m : ℕ) → length (variable_of (style_by n m) d i) ≤ r
  pub small : r ≤ 18

pub record BinderRoom (n : Notation) (d r : ℕ) : Type 0 where
  pub covers : (m : ℕ) → length (binder_of (style_by n m) d) ≤ r
  pub small : r ≤ 17

-- nothing is counted past the greatest number: there is a byte for each node, and 20 bytes of text are enough for it
pub record Gaugeable (s : List ℕ) (at d room : ℕ) (c : Counts) : Type 0 where
  pub inside : at ≤ length s
  pub short : length s ≤ 9 * most_nodes
  pub shallow : d + room ≤ most_height
  pub few : c.nodes ≤ at
  pub small : c.text ≤ 20 * at

-- a term stands at an offset, no higher than the room, and all of it is added to what was counted before
pub record Gauged (n : Notation) (s : List ℕ) (at d : ℕ) (part : Part) (room : ℕ) (c : Counts) (next : ℕ)
    (c' : Counts) : Type 0 where
  pub term : Term
  pub read : first (drop at s) ≡ found term (drop next s)
  pub low : height term ≤ room
  pub counted : c'.nodes ≡ c.nodes + nodes term
  pub deepest : c'.most ≡ max c.most (d + max_depth term)
  pub covered : (m : ℕ) → c.text + length (part_text (style_by n m) d part term) ≤ c'.text
  pub inside : next ≤ length s
  pub few : c'.nodes ≤ next
  pub small : c'.text ≤ 20 * next

pub record Gauges (n : Notation) (s : List ℕ) (at d : ℕ) (part : Part) (room : ℕ) (c : Counts) (r : Option ℕ)
    (c' : Counts) : Type 0 where
  pub gauged : {next : ℕ} → r ≡ Some next → Gauged n s at d part room c next c'

-- the bytes are one term within the bounds, and this is its style and room enough for its text
pub record GaugedWhole (n : Notation) (s : List ℕ) (most plenty : ℕ) : Type 0 where
  pub term : Term
  pub passes : checked most_nodes s ≡ given term
  pub deep : most ≡ max_depth term
  pub short : length (write_text (notation_of n) term) ≤ plenty

pub record GaugesWhole (n : Notation) (s : List ℕ) (r : Option Gauge) : Type 0 where
  pub whole : {g : Gauge} → r ≡ Some g → GaugedWhole n s g.most g.plenty
