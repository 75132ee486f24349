-- The walk over any bytes: the term at each head from those of its parts, and what is left to be found.
use Rattle.std.specs.Prelude.{Option, Some, None}
use Prim.Native.Nat.{ℕ, ◌+◌, ◌-◌, ◌≤◌, ◌<◌, max}
use mathlib.Core.Path.{◌≡◌, refl, ap, ◌∙◌}
use mathlib.Core.Bool.{Bool, cond}
use mathlib.Core.List.{List, []}
use native.Mathlib.Omega.{arith}
use lib.ListN.{length, drop, drop_of_length-le}
use lib.Seq.{drop-drop}
use Rattle.calculus.specs.Term.{var, lam, app, nodes, height}
use Rattle.calculus.specs.Bounds.{most_nodes, most_height}
use Rattle.calculus.specs.Bytes.{found, under, beside, two_parts, whole, decode}
use Rattle.calculus.specs.Queries.{max_depth}
use Rattle.calculus.specs.Writing.{gap_text}
use Rattle.calculus.proofs.Decoding.{first}
use Rattle.calculus.proofs.Judged.{given-checked}
use Rattle.term.specs.Heads.{head_in}
use Rattle.term.specs.Notations.{notation_of}
use Rattle.term.specs.declared.Head.{Head}
use Rattle.term.specs.declared.Head.TheVariants.{Variable, Abstraction, Application}
use Rattle.term.specs.declared.Notation.{Notation}
use Rattle.term.proofs.Heads.{head_within, by_head, first_by_head}
use Rattle.printer.specs.Parts.{groups_lam, groups_app}
use Rattle.printer.specs.Gauges.{style_by, VariableRoom, BinderRoom, Gaugeable, Gauged, Gauges}
use Rattle.printer.specs.Gauges.{GaugedWhole, GaugesWhole}
use Rattle.printer.specs.declared.gauging.Counts.{Counts}
use Rattle.printer.specs.declared.gauging.Gauge.{Gauge}
use Rattle.printer.specs.declared.Part.{Part}
use Rattle.printer.specs.declared.Part.TheVariants.{Whole, Left, Right}
use Rattle.printer.proofs.Printing.{whole-text}
use Rattle.printer.proofs.TextRoom.{length-var, length-lam, length_app}

abbrev pub counts : (nodes most text : ℕ) → Counts
counts n m t = record { nodes = n; most = m; text = t }

-- what is read where a head stands
read_by : (s : List ℕ) (at : ℕ) {h : Option Head} → head_in (drop at s) ≡ h → first (drop at s) ≡ by_head h (drop at s)
read_by s at e = first_by_head (drop at s) ∙ ap (λ h. by_head h (drop at s)) e

module _ {n : Notation} {s : List ℕ} {at d : ℕ} {part : Part} {room : ℕ} {c : Counts} (some : 0 < room) where
  pub gauged-variable : {i v deeper : ℕ} → Gaugeable s at d room c → head_in (drop at s) ≡ Some (Variable i)
      → deeper ≡ max c.most d → VariableRoom n d i v
      → Gauged n s at d part room c (at + 9) (counts (c.nodes + 1) deeper (c.text + v))
  unfolding height nodes max_depth
  gauged-variable {i} ready h e v = record {
    term = var i;
    read = read_by s at h ∙ ap (found (var i)) (drop-drop 9 at s);
    low = omega arith;
    counted = refl;
    deepest = omega arith;
    covered = λ m. omega (arith, length-var (style_by n m) d part i, v.covers m);
    inside = head_within s at ready.inside h;
    few = omega (arith, ready.few);
    small = omega (arith, ready.small, v.small);
  }

  module _ {p next : ℕ} {c' : Counts} {g : Bool} (pair : p ≡ cond g 2 0) where
    pub gauged-abstraction : {b : ℕ} → head_in (drop at s) ≡ Some Abstraction → g ≡ groups_lam part → BinderRoom n d b
        → Gauged n s (at + 1) (d + 1) Whole (room - 1) (counts (c.nodes + 1) c.most (c.text + (p + b))) next c'
        → Gauged n s at d part room c next c'
    unfolding height nodes max_depth
    gauged-abstraction h e b body = record {
      term = lam body.term;
      read = read_by s at h ∙ ap under (ap first (drop-drop 1 at s) ∙ body.read);
      low = omega (arith, body.low);
      counted = omega (arith, body.counted);
      deepest = omega (arith, body.deepest);
      covered = λ m. omega (
        arith,
        length-lam (style_by n m) d part body.term,
        pair ∙ ap (λ g. cond g 2 0) e,
        b.covers m,
        body.covered m,
      );
      inside = body.inside;
      few = body.few;
      small = body.small;
    }

    pub gauged-application : {gap mid : ℕ} {c₁ : Counts} → head_in (drop at s) ≡ Some Application
        → g ≡ groups_app part → gap ≡ length (gap_text (notation_of n))
        → Gauged n s (at + 1) d Left (room - 1) (counts (c.nodes + 1) c.most (c.text + (p + gap))) mid c₁
        → Gauged n s mid d Right (room - 1) c₁ next c'
        → Gauged n s at d part room c next c'
    unfolding height nodes max_depth
    gauged-application h e k left right = record {
      term = app left.term right.term;
      read = read_by s at h
          ∙ ap (λ f. two_parts f first) (ap first (drop-drop 1 at s) ∙ left.read)
          ∙ ap (beside left.term) right.read;
      low = omega (arith, left.low, right.low);
      counted = omega (arith, left.counted, right.counted);
      deepest = omega (arith, left.deepest, right.deepest);
      covered = λ m. omega (
        arith,
        length_app (style_by n m) d part left.term right.term,
        pair ∙ ap (λ g. cond g 2 0) e,
        k,
        left.covered m,
        right.covered m,
      );
      inside = right.inside;
      few = right.few;
      small = right.small;
    }

-- THE WHOLE
pub whole-gauged : {n : Notation} {s : List ℕ} {end : ℕ} {c : Counts}
    → Gauged n s 0 0 Whole most_height (counts 0 0 0) end c → length s ≤ end → c.nodes ≤ most_nodes
    → GaugedWhole n s c.most c.text
unfolding decode
whole-gauged {n} {s} {end} g all few =
    let t = g.term in
    let none : drop end s ≡ [] = drop_of_length-le s all in
    record {
      term = t;
      passes = given-checked s (ap (whole s) (g.read ∙ ap (found t) none)) g.low (omega (arith, g.counted));
      deep = omega (arith, g.deepest);
      short = omega (arith, g.covered (max_depth t), ap length (whole-text (style_by n (max_depth t)) t refl));
    }

pub whole_known : {n : Notation} {s : List ℕ} {r : Option ℕ} {end : ℕ} {c : Counts}
    → Gauges n s 0 0 Whole most_height (counts 0 0 0) r c → r ≡ Some end → length s ≤ end → c.nodes ≤ most_nodes
    → GaugesWhole n s (Some (record { most = c.most; plenty = c.text }))
whole_known {n} {s} {c = c} gauges e all few =
    record { whole = λ k. told (whole-gauged (gauges.gauged e) all few) cc }
  where
    told : GaugedWhole n s c.most c.text → {g : Gauge} → g ≡ record { most = c.most; plenty = c.text }
        → GaugedWhole n s g.most g.plenty
    told w k = rw k w

-- WHAT IS LEFT TO BE FOUND at each node: whatever term is read from here on makes one of what was begun
module _ (n : Notation) (s : List ℕ) (at₀ d₀ : ℕ) (part₀ : Part) (room₀ : ℕ) (c₀ : Counts) where
  pub record Onward (at d : ℕ) (part : Part) (room : ℕ) (c : Counts) : Type 0 where
    pub ready : Gaugeable s at d room c
    pub lower : room ≤ room₀
    onward : {next : ℕ} {c' : Counts} → Gauged n s at d part room c next c'
        → Gauged n s at₀ d₀ part₀ room₀ c₀ next c'

  pub no_term : {c : Counts} → Gauges n s at₀ d₀ part₀ room₀ c₀ None c
  no_term = record { gauged = λ e. let never : ◌≡◌ {A = ℕ} 0 1 = cc in absurd (omega arith) }

  -- a term that ends there
  ends : {next : ℕ} {c : Counts} → Gauged n s at₀ d₀ part₀ room₀ c₀ next c
      → Gauges n s at₀ d₀ part₀ room₀ c₀ (Some next) c
  ends {next} {c} g = record { gauged = λ e. there e }
    where
      there : {other : ℕ} → Some next ≡ Some other → Gauged n s at₀ d₀ part₀ room₀ c₀ other c
      there {other} e = let same : next ≡ other = cc in rw (← same) g

  pub at_first : Gaugeable s at₀ d₀ room₀ c₀ → Onward at₀ d₀ part₀ room₀ c₀
  at_first ready = record { ready = ready; lower = omega arith; onward = λ g. g }

module _ {n : Notation} {s : List ℕ} {at₀ d₀ : ℕ} {part₀ : Part} {room₀ : ℕ} {c₀ : Counts}
    {at d : ℕ} {part : Part} {room : ℕ} {c : Counts}
    (now : Onward n s at₀ d₀ part₀ room₀ c₀ at d part room c) (left : room ≡ 0 → ⊥) where
  some : 0 < room
  some = omega arith

  pub at_variable : {i v deeper : ℕ} → head_in (drop at s) ≡ Some (Variable i) → deeper ≡ max c.most d
      → VariableRoom n d i v
      → Gauges n s at₀ d₀ part₀ room₀ c₀ (Some (at + 9)) (counts (c.nodes + 1) deeper (c.text + v))
  at_variable h e v = ends n s at₀ d₀ part₀ room₀ c₀ (now.onward (gauged-variable some now.ready h e v))

  -- what is asked after a node of one byte
  ready-next : {d' room' more : ℕ} → at + 1 ≤ length s → d' + room' ≤ d + room → more ≤ 20
      → Gaugeable s (at + 1) d' room' (counts (c.nodes + 1) c.most (c.text + more))
  ready-next inside shallow small =
      let r = now.ready in
      record {
        inside = inside;
        short = r.short;
        shallow = omega (arith, r.shallow);
        few = omega (arith, r.few);
        small = omega (arith, r.small);
      }

  pub at_abstraction : {p b : ℕ} {g : Bool} → head_in (drop at s) ≡ Some Abstraction → g ≡ groups_lam part
      → (p ≡ cond g 2 0) × (p ≤ 2) → BinderRoom n d b
      → Onward n s at₀ d₀ part₀ room₀ c₀ (at + 1) (d + 1) Whole (room - 1)
      (counts (c.nodes + 1) c.most (c.text + (p + b)))
  at_abstraction h e (pair, few) b = record {
    ready = ready-next (head_within s at now.ready.inside h) (omega arith) (omega (arith, b.small));
    lower = omega (arith, now.lower);
    onward = λ body. now.onward (gauged-abstraction some pair h e b body);
  }

  pub left-ready : {p gap : ℕ} → head_in (drop at s) ≡ Some Application → p ≤ 2 → gap ≤ 1
      → Gaugeable s (at + 1) d (room - 1) (counts (c.nodes + 1) c.most (c.text + (p + gap)))
  left-ready h two one =
      ready-next (head_within s at now.ready.inside h) (omega arith) (omega arith)

  pub at_application : {p gap mid : ℕ} {r : Option ℕ} {c₁ : Counts} {g : Bool} → head_in (drop at s) ≡ Some Application
      → g ≡ groups_app part → (p ≡ cond g 2 0) × (p ≤ 2) → (gap ≡ length (gap_text (notation_of n))) × (gap ≤ 1)
      → Gauges n s (at + 1) d Left (room - 1) (counts (c.nodes + 1) c.most (c.text + (p + gap))) r c₁
      → r ≡ Some mid
      → Onward n s at₀ d₀ part₀ room₀ c₀ mid d Right (room - 1) c₁
  at_application h e (pair, two) (k, one) gauges more =
      let left = gauges.gauged more in
      let r = now.ready in
      record {
        ready = record {
          inside = left.inside;
          short = r.short;
          shallow = omega (arith, r.shallow);
          few = left.few;
          small = left.small;
        };
        lower = omega (arith, now.lower);
        onward = λ right. now.onward (gauged-application some pair h e k left right);
      }
