-- Exactly when a term is within the bounds, and that a greater cap lets through no less.
use Prim.Native.Nat.{ℕ, ◌≤◌, ◌<◌}
use mathlib.Core.Path.{◌≡◌, refl}
use mathlib.Core.List.{List}
use mathlib.Core.Option.{none}
use native.Mathlib.Omega.{arith}
use native.Mathlib.Decide.{dec_le}
use borrow.Author.Tests.{le-leb, lt-leb}
use Rattle.calculus.specs.Term.{Term, nodes, height, greatest_index}
use Rattle.calculus.specs.Bounds.{most_height, greatest_number}
use Rattle.calculus.specs.Refusal.{Answer, given, refused, ◌then◌, too_high, too_many_nodes}
use Rattle.calculus.specs.Refusal.{index_too_great}
use Rattle.calculus.specs.Judging.{within, next_within, refusal_in, judge}
use Rattle.calculus.specs.Bytes.{decode}
use Rattle.calculus.specs.Outcomes.{checked}

-- 7, then 9, each exactly if it holds
pub data Judgement (cap : ℕ) (t : Term) : Answer Term → Type 0 where
  in_bounds : height t ≤ most_height → nodes t ≤ cap → Judgement cap t (given t)
  high : most_height < height t → Judgement cap t (refused too_high)
  many : height t ≤ most_height → cap < nodes t → Judgement cap t (refused too_many_nodes)

pub within-judged : (cap : ℕ) (t : Term) → Judgement cap t (within cap t)
unfolding within
within-judged cap t =
    elim (dec_le (height t) most_height) [
      | yes h ↦
          elim (dec_le (nodes t) cap) [
            | yes k ↦ rw (le-leb (height t) most_height h, le-leb (nodes t) cap k) (in_bounds h k)
            | no k ↦ rw (le-leb (height t) most_height h, lt-leb (nodes t) cap (omega arith)) (many h (omega arith))
          ]
      | no h ↦ rw (lt-leb (height t) most_height (omega arith)) (high (omega arith))
    ]

pub in_bounds-given : {cap : ℕ} (t : Term) → height t ≤ most_height → nodes t ≤ cap → within cap t ≡ given t
unfolding within
in_bounds-given {cap} t h k = rw (le-leb (height t) most_height h, le-leb (nodes t) cap k)

pub given-in_bounds : {cap : ℕ} (t : Term) {u : Term} → within cap t ≡ given u
    → (t ≡ u) × (height t ≤ most_height) × (nodes t ≤ cap)
given-in_bounds {cap} t e = read (rw e at (within-judged cap t))
  where
    read : {u : Term} → Judgement cap t (given u) → (t ≡ u) × (height t ≤ most_height) × (nodes t ≤ cap)
    read (in_bounds h k) = (refl, h, k)

-- 12, then as above
pub data NextJudgement (cap : ℕ) (t : Term) : Answer Term → Type 0 where
  small : {r : Answer Term} → greatest_index t ≤ greatest_number → Judgement cap t r → NextJudgement cap t r
  great : greatest_number < greatest_index t → NextJudgement cap t (refused index_too_great)

pub next-judged : (cap : ℕ) (t : Term) → NextJudgement cap t (next_within cap t)
unfolding next_within
next-judged cap t =
    elim (dec_le (greatest_index t) greatest_number) [
      | yes h ↦ rw (le-leb (greatest_index t) greatest_number h) (small h (within-judged cap t))
      | no h ↦ rw (lt-leb (greatest_index t) greatest_number (omega arith)) (great (omega arith))
    ]

-- the next term is let through
pub accepts : {cap : ℕ} (t : Term) → greatest_index t ≤ greatest_number → height t ≤ most_height → nodes t ≤ cap
    → judge cap t ≡ none
unfolding next_within
accepts {cap} t i h k = rw (le-leb (greatest_index t) greatest_number i, in_bounds-given t h k)

pub accepted : {cap : ℕ} (t : Term) → judge cap t ≡ none
    → (greatest_index t ≤ greatest_number) × (height t ≤ most_height) × (nodes t ≤ cap)
accepted {cap} t e = read (next-judged cap t) e
  where
    inner : {r : Answer Term} → Judgement cap t r → refusal_in r ≡ none → (height t ≤ most_height) × (nodes t ≤ cap)
    inner (in_bounds h k) e = (h, k)
    inner (high h) e = let never : ◌≡◌ {A = ℕ} 0 1 = cc in absurd (omega arith)
    inner (many h k) e = let never : ◌≡◌ {A = ℕ} 0 1 = cc in absurd (omega arith)

    read : {r : Answer Term} → NextJudgement cap t r → refusal_in r ≡ none
        → (greatest_index t ≤ greatest_number) × (height t ≤ most_height) × (nodes t ≤ cap)
    read (small i j) e = let (h, k) = inner j e in (i, h, k)
    read (great i) e = let never : ◌≡◌ {A = ℕ} 0 1 = cc in absurd (omega arith)

-- a greater cap accepts no less
pub judge_more : {cap cap' : ℕ} → cap ≤ cap' → (t : Term) → judge cap t ≡ none → judge cap' t ≡ none
judge_more h t e = let (i, l, k) = accepted t e in accepts t i l (omega arith)

-- a coded input that is let through: its bytes decode, and the term is within the bounds
pub checked-given : {cap : ℕ} (s : List ℕ) {t : Term} → checked cap s ≡ given t
    → (decode s ≡ given t) × (height t ≤ most_height) × (nodes t ≤ cap)
unfolding checked
checked-given {cap} s {t} e = read (decode s) refl e
  where
    read : (r : Answer Term) → decode s ≡ r → (r then within cap) ≡ given t
        → (decode s ≡ given t) × (height t ≤ most_height) × (nodes t ≤ cap)
    read (given u) d w = let (p, h, k) = given-in_bounds u w in (rw p at d, rw p at h, rw p at k)
    read (refused r) d w = let never : ◌≡◌ {A = ℕ} 0 1 = cc in absurd (omega arith)

pub given-checked : {cap : ℕ} (s : List ℕ) {t : Term} → decode s ≡ given t → height t ≤ most_height → nodes t ≤ cap
    → checked cap s ≡ given t
unfolding checked
given-checked s {t} d h k = rw d (in_bounds-given t h k)

pub checked_more : {cap cap' : ℕ} (s : List ℕ) {t : Term} → cap ≤ cap' → checked cap s ≡ given t
    → checked cap' s ≡ given t
checked_more s h e = let (d, l, k) = checked-given s e in given-checked s d l (omega arith)
