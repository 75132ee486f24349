-- How a term is held to the bounds: 7 and 9, and 12 before them for a next term.
use Rattle.std.specs.Prelude.{ℕ, leb}
use Rattle.std.proofs.Math.Option.{Option, none, some}
use Rattle.calculus.specs.Term.{Term, nodes, height, greatest_index}
use Rattle.calculus.specs.Bounds.{most_height, greatest_number}
use Rattle.calculus.specs.Refusal.{Refusal, Answer, given, refused, ◌then◌, kept_if}
use Rattle.calculus.specs.Refusal.{too_high, too_many_nodes, index_too_great}

-- height (7), then nodes (9)
unfoldable pub within : (cap : ℕ) → Term → Answer Term
unfolding height nodes
within cap t = kept_if (leb (height t) most_height) too_high t then kept_if (leb (nodes t) cap) too_many_nodes

-- an index above 2^64 - 1 (12), then as above
unfoldable pub next_within : (cap : ℕ) → Term → Answer Term
unfolding greatest_index within
next_within cap t = kept_if (leb (greatest_index t) greatest_number) index_too_great t then within cap

abbrev pub refusal_in : {A : Type 0} → Answer A → Option Refusal
refusal_in (given a) = none
refusal_in (refused e) = some e

-- the judgement of a next term
abbrev pub judge : (cap : ℕ) → Term → Option Refusal
judge cap u = refusal_in (next_within cap u)
