-- How a part is judged: 12, 7 and 9 by its three tests, and that a part in its place is judged as the whole is.
use Prim.Native.Nat.{ℕ, ◌+◌, ◌≤◌, ◌<◌}
use mathlib.Core.Path.{◌≡◌, refl, sym, ◌∙◌}
use mathlib.Core.Bool.{Bool, true, false}
use mathlib.Core.Logic.{◌↔◌}
use mathlib.Core.Option.{Option, none, some}
use native.Mathlib.Omega.{arith}
use lib.Dec.{leb}
use borrow.Author.Tests.{le-leb, lt-leb}
use Rattle.calculus.specs.Term.{Term, lam, app, nodes, height, greatest_index}
use Rattle.calculus.specs.Bounds.{most_height, greatest_number}
use Rattle.calculus.specs.Refusal.{Refusal, too_high, too_many_nodes, index_too_great}
use Rattle.calculus.specs.Judging.{judge, within, next_within}
use Rattle.calculus.proofs.Tests.{same-bound}
use Rattle.engine.specs.Judging.{judge_at, part_within}

-- the whole term is the part at depth 0
pub judge_root : (cap : ℕ) (t : Term) → judge_at 0 cap t ≡ judge cap t
unfolding part_within next_within within
judge_root cap t = by_index (leb (greatest_index t) greatest_number) refl
  where
    no_deeper : 0 + height t ≡ height t
    no_deeper = omega arith

    by_index : (small : Bool) → leb (greatest_index t) greatest_number ≡ small → judge_at 0 cap t ≡ judge cap t
    by_index true e = rw (e, no_deeper)
    by_index false e = rw e

-- the judgement by its three tests
abbrev by_tests : (small low few : Bool) → Option Refusal
by_tests false low few = some index_too_great
by_tests true false few = some too_high
by_tests true true false = some too_many_nodes
by_tests true true true = none

module _ (depth most : ℕ) (t : Term) where
  tested : (small low few : Bool) → leb (greatest_index t) greatest_number ≡ small
      → leb (depth + height t) most_height ≡ low → leb (nodes t) most ≡ few
      → judge_at depth most t ≡ by_tests small low few
  unfolding part_within
  tested false low few i h n = rw i
  tested true false few i h n = rw (i, h)
  tested true true false i h n = rw (i, h, n)
  tested true true true i h n = rw (i, h, n)

  pub accepts_part : greatest_index t ≤ greatest_number → depth + height t ≤ most_height → nodes t ≤ most
      → judge_at depth most t ≡ none
  accepts_part i h n =
      tested true true true (le-leb (greatest_index t) greatest_number i) (le-leb (depth + height t) most_height h)
      (le-leb (nodes t) most n)

  -- 12, then 7, then 9
  pub refused_great : greatest_number < greatest_index t → judge_at depth most t ≡ some index_too_great
  refused_great i = tested false _ _ (lt-leb (greatest_index t) greatest_number i) refl refl

  pub refused_high : greatest_index t ≤ greatest_number → most_height < depth + height t
      → judge_at depth most t ≡ some too_high
  refused_high i h =
      tested true false _ (le-leb (greatest_index t) greatest_number i) (lt-leb (depth + height t) most_height h) refl

  pub refused-many : greatest_index t ≤ greatest_number → depth + height t ≤ most_height → most < nodes t
      → judge_at depth most t ≡ some too_many_nodes
  refused-many i h n =
      tested true true false (le-leb (greatest_index t) greatest_number i) (le-leb (depth + height t) most_height h)
      (lt-leb (nodes t) most n)

-- two parts that meet each bound alike
judged_alike : (depth inner : ℕ) {most fewer : ℕ} (t u : Term)
    → (greatest_index t ≤ greatest_number) ↔ (greatest_index u ≤ greatest_number)
    → (depth + height t ≤ most_height) ↔ (inner + height u ≤ most_height)
    → (nodes t ≤ most) ↔ (nodes u ≤ fewer)
    → judge_at depth most t ≡ judge_at inner fewer u
judged_alike depth inner {most} {fewer} t u i h n =
    tested depth most t _ _ _ (same-bound (greatest_index t) greatest_number (greatest_index u) greatest_number i)
    (same-bound (depth + height t) most_height (inner + height u) most_height h)
    (same-bound (nodes t) most (nodes u) fewer n)
    ∙ sym (tested inner fewer u _ _ _ refl refl refl)

pub judge-body : (depth : ℕ) {most : ℕ} (fewer : ℕ) → most ≡ fewer + 1 → (t : Term)
    → judge_at depth most (lam t) ≡ judge_at (depth + 1) fewer t
unfolding greatest_index height nodes
judge-body depth fewer e t = judged_alike depth (depth + 1) (lam t) t (omega arith) (omega arith) (omega arith)

-- the other part of an application is within the bounds
pub record Beside (depth : ℕ) (t : Term) : Type 0 where
  pub small : greatest_index t ≤ greatest_number
  pub low : depth + 1 + height t ≤ most_height

pub judge-left : {depth most : ℕ} (fewer : ℕ) (r : Term) → Beside depth r → most ≡ fewer + nodes r + 1 → (t : Term)
    → judge_at depth most (app t r) ≡ judge_at (depth + 1) fewer t
unfolding greatest_index height nodes
judge-left {depth} fewer r b e t =
    judged_alike depth (depth + 1) (app t r) t (omega (arith, b)) (omega (arith, b)) (omega arith)

pub judge-right : {depth most : ℕ} (fewer : ℕ) (l : Term) → Beside depth l → most ≡ fewer + nodes l + 1 → (t : Term)
    → judge_at depth most (app l t) ≡ judge_at (depth + 1) fewer t
unfolding greatest_index height nodes
judge-right {depth} fewer l b e t =
    judged_alike depth (depth + 1) (app l t) t (omega (arith, b)) (omega (arith, b)) (omega arith)
