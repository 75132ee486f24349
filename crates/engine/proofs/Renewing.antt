-- Making a term anew: copied nodes keep their first numbers and so say the same, and moved nodes are the same terms.
use Prim.Native.Nat.{ℕ, ◌+◌, ◌*◌, ◌/◌, ◌%◌, ◌-◌, ◌≤◌, ◌<◌}
use mathlib.Core.Path.{◌≡◌, refl, sym, ap, ap₂, ◌∙◌}
use mathlib.Core.List.{List}
use native.Mathlib.Omega.{arith}
use lib.ListN.{length, drop, set, length-drop}
use lib.Seq.{drop-set-add}
use Rattle.calculus.specs.Term.{Term, var, lam, app, nodes}
use Rattle.calculus.proofs.Measures.{nodes_positive}
use Rattle.nodes.specs.Packing.{kind_in}
use Rattle.nodes.specs.Store.{Says, Holds, Same, word, link, kind}
use Rattle.nodes.specs.Node.{node_in}
use Rattle.nodes.specs.declared.Node.{Node}
use Rattle.nodes.specs.declared.Node.TheVariants.{Variable, Abstraction, Application}
use Rattle.nodes.proofs.Keeping.{same_refl, same_then, holds_kept, says}
use Rattle.nodes.proofs.Stored.{stored}
use Rattle.nodes.proofs.Making.{variable-made, abstraction-made, application-made}
use Rattle.nodes.proofs.Parts.{HeldAbstraction, HeldApplication}
use Rattle.nodes.proofs.Parts.{held-variable, held-abstraction, held-application, reads_application}
use Rattle.nodes.proofs.Holding.{held_once}
use Rattle.engine.specs.Moving.{from_base, Copiable, Copies}

-- A NODE PUT at a number that is counted from a base
abbrev pub PutFrom : (base top w x : ℕ) (mid : List ℕ) (next : ℕ) (after : List ℕ) → Type 0
PutFrom base top w x mid next after =
    (next ≡ base + top + 1) × (after ≡ set (set mid (2 * (base + top)) w) (2 * (base + top) + 1) x)

module _ (base top w x : ℕ) (mid : List ℕ) {next : ℕ} {after : List ℕ} (fits : 2 * (base + top) + 2 ≤ length mid)
    (put : PutFrom base top w x mid next after) where
  fits_behind : 2 * top + 2 ≤ length (from_base base mid)
  fits_behind = omega (arith, length-drop (2 * base) mid)

  put_behind : from_base base after ≡ set (set (from_base base mid) (2 * top) w) (2 * top + 1) x
  put_behind =
      let first : 2 * (base + top) ≡ 2 * base + 2 * top = omega arith in
      let second : 2 * (base + top) + 1 ≡ 2 * base + (2 * top + 1) = omega arith in
      ap (drop (2 * base)) (put.1 ∙ ap₂ (λ i j. set (set mid i w) j x) first second)
      ∙ drop-set-add (2 * base) (set mid (2 * base + 2 * top) w) (2 * top + 1) x
      ∙ ap (λ ys. set ys (2 * top + 1) x) (drop-set-add (2 * base) mid (2 * top) w)

  -- it is the term of which its first number speaks
  variable-put : Says w (var x) → Holds (from_base base after) (var x) top
  variable-put said =
      let (_, _, made) = variable-made (from_base base mid) top w x fits_behind (refl, put_behind) said in made

  abstraction-put : (b : Term) → x < top → Holds (from_base base mid) b x → Says w (lam b)
      → Holds (from_base base after) (lam b) top
  abstraction-put b below h said =
      let xs = from_base base mid in
      let (_, _, made) = abstraction-made xs top w x fits_behind (refl, put_behind) below
      (λ c g. rw (sym (held_once xs x b c h g)) said) in
      made b h

  application-put : (l r : Term) {m n : ℕ} → x ≡ m + 4294967296 * n → m < top → n < top → top < 4294967296
      → Holds (from_base base mid) l m → Holds (from_base base mid) r n → Says w (app l r)
      → Holds (from_base base after) (app l r) top
  application-put l r {m} {n} pair first second low h g said =
      let xs = from_base base mid in
      let (_, _, made) = application-made xs top w x fits_behind (refl, put_behind) pair first second low
      (λ c d i j. rw (sym (held_once xs m l c h i), sym (held_once xs n r d g j)) said) in
      made l r h g

  -- it is the last of a copy, once the parts are made
  last-put : {t : Term} {store : List ℕ} {used : ℕ} → Same store mid base
      → Same (from_base base store) (from_base base mid) used → used ≤ top → top + 1 ≡ used + nodes t
      → Holds (from_base base after) t top
      → Copies t store base used (next - base) after
  last-put same kept le size holds =
      let at_top : next - base - 1 ≡ top = omega arith in
      record {
        made = omega arith;
        holds = rw at_top holds;
        same = same_then (omega arith) same (stored mid (base + top) w x fits put.1).same;
        kept = same_then le kept (stored (from_base base mid) top w x fits_behind put_behind).same;
      }

-- THE COPY of a node's term
module _ {t : Term} {store : List ℕ} {node base used : ℕ} (can : Copiable t store node base used)
    {found : Node} (told : found ≡ node_in (word store node) (link store node)) where
  said : Says (word store node) t
  said = says store t node can.holds

  pub variable-fits : (base + used < 4294967296) × (2 * (base + used) + 2 ≤ length store)
  variable-fits = (omega (arith, can.fits, can.small), omega (arith, can.fits, nodes_positive t))

  pub at_variable : {i next : ℕ} {after : List ℕ} → found ≡ Variable i
      → PutFrom base used (word store node) i store next after
      → Copies t store base used (next - base) after
  unfolding nodes
  at_variable {i} is put =
      let w = word store node in
      let (_, fits) = variable-fits in
      let same = held-variable store node told t can.holds is in
      rw same (last-put base used w i store fits put (same_refl store base) (same_refl (from_base base store) used)
      (omega arith) (omega arith) (variable-put base used w i store fits put (rw same at said)))

  -- AN ABSTRACTION
  module _ {n : ℕ} (is : found ≡ Abstraction n) where
    held : HeldAbstraction store node n t
    held = held-abstraction store node told t can.holds is

    body-can : Copiable held.body store n base used
    unfolding nodes
    body-can = record {
      holds = held.held;
      below = omega (arith, held.below, can.below);
      fits = omega (arith, can.fits, ap nodes held.same);
      small = can.small;
    }

    pub body_asks : (n < node) × ((b : Term) × Copiable b store n base used)
    body_asks = (held.below, (held.body, body-can))

    module _ {top : ℕ} {mid : List ℕ}
        (copy : (b : Term) → Copiable b store n base used → Copies b store base used top mid) where
      body : Copies held.body store base used top mid
      body = copy held.body body-can

      pub abstraction-fits : (0 < top) × (base + top < 4294967296) × (2 * (base + top) + 2 ≤ length mid)
      unfolding nodes
      abstraction-fits = (
        omega (arith, body.made, nodes_positive held.body),
        omega (arith, body.made, can.fits, can.small, ap nodes held.same),
        omega (arith, body.made, body.same.as_long, can.fits, ap nodes held.same),
      )

      pub at_abstraction : {next : ℕ} {after : List ℕ} → PutFrom base top (word store node) (top - 1) mid next after
          → Copies t store base used (next - base) after
      unfolding nodes
      at_abstraction put =
          let w = word store node in
          let (made, _, fits) = abstraction-fits in
          let new = abstraction-put base top w (top - 1) mid fits put held.body (omega arith) body.holds
          (rw held.same at said) in
          rw held.same (last-put base top w (top - 1) mid fits put body.same body.kept
          (omega (arith, body.made)) (omega (arith, body.made)) new)

  -- AN APPLICATION
  module _ {m n : ℕ} (is : found ≡ Application m n) where
    parts : HeldApplication store node m n t
    parts = held-application store node told t can.holds is

    left-can : Copiable parts.left store m base used
    unfolding nodes
    left-can = record {
      holds = parts.left_held;
      below = omega (arith, parts.left_below, can.below);
      fits = omega (arith, can.fits, ap nodes parts.same);
      small = can.small;
    }

    pub left_asks : (m < node) × ((l : Term) × Copiable l store m base used)
    left_asks = (omega (arith, parts.left_below), (parts.left, left-can))

    module _ {middle : ℕ} {mid : List ℕ}
        (copy_left : (l : Term) → Copiable l store m base used → Copies l store base used middle mid) where
      left : Copies parts.left store base used middle mid
      left = copy_left parts.left left-can

      right-can : Copiable parts.right mid n base middle
      unfolding nodes
      right-can = record {
        holds =
            holds_kept parts.right n left.same (omega (arith, parts.right_below, can.below))
            parts.right_held;
        below = omega (arith, parts.right_below, can.below);
        fits = omega (arith, left.made, left.same.as_long, can.fits, ap nodes parts.same);
        small = omega (arith, left.same.as_long, can.small);
      }

      pub right_asks : (n < node) × ((r : Term) × Copiable r mid n base middle)
      right_asks = (omega (arith, parts.right_below), (parts.right, right-can))

      module _ {top : ℕ} {end : List ℕ}
          (copy_right : (r : Term) → Copiable r mid n base middle → Copies r mid base middle top end) where
        right : Copies parts.right mid base middle top end
        right = copy_right parts.right right-can

        pub application-fits : (0 < middle) × (middle < top) × (base + top < 4294967296)
            × (2 * (base + top) + 2 ≤ length end)
        unfolding nodes
        application-fits =
            let long = right.same.as_long ∙ left.same.as_long in (
              omega (arith, left.made, nodes_positive parts.left),
              omega (arith, right.made, nodes_positive parts.right),
              omega (arith, right.made, left.made, can.fits, can.small, ap nodes parts.same),
              omega (arith, right.made, left.made, can.fits, ap nodes parts.same),
            )

        pub at_application : {x next : ℕ} {after : List ℕ} → x ≡ middle - 1 + 4294967296 * (top - 1)
            → PutFrom base top (word store node) x end next after
            → Copies t store base used (next - base) after
        unfolding nodes
        at_application {x} pair put =
            let w = word store node in
            let (first, second, low, fits) = application-fits in
            let left_holds = holds_kept parts.left (middle - 1) right.kept (omega arith) left.holds in
            let new = application-put base top w x end fits put parts.left parts.right pair
            (omega arith) (omega arith) (omega arith) left_holds right.holds (rw parts.same at said) in
            rw parts.same (last-put base top w x end fits put (same_then (omega arith) left.same right.same)
            (same_then (omega (arith, left.made)) left.kept right.kept) (omega (arith, left.made))
            (omega (arith, left.made, right.made)) new)

-- the parts of an application that a node is by its kind, and their sizes
pub parts_held : {t : Term} {store : List ℕ} {node : ℕ} → Holds store t node → (kind_in (word store node) ≡ 1 → ⊥)
    → (kind_in (word store node) ≡ 2 → ⊥)
    → Holds store t node
    × ((v : HeldApplication store node (link store node % 4294967296) (link store node / 4294967296) t)
    × (nodes t ≡ nodes v.left + nodes v.right + 1))
unfolding nodes kind Holds
parts_held {t = var i} held not1 not2 = absurd (not1 held.0.kind_is)
parts_held {t = lam b} held not1 not2 = absurd (not2 held.0.kind_is)
parts_held {t = app l r} {store} {node} held not1 not2 =
    let is = reads_application (word store node) (link store node) held.0.kind_is in
    let v = held-application store node refl (app l r) held is in
    (held, (v, omega (arith, ap nodes v.same)))

-- a node below those that were added is still the term
pub still_held : {before after : List ℕ} {used : ℕ} (t : Term) (node : ℕ) → Holds before t node
    → Same before after used → node < used
    → Holds before t node × Holds after t node
still_held t node held same below = (held, holds_kept t node same below held)

-- the same where the node was read
pub parts_read : {t : Term} {store : List ℕ} {node m n : ℕ} {found : Node} → Holds store t node
    → found ≡ node_in (word store node) (link store node) → found ≡ Application m n
    → Holds store t node
    × ((v : HeldApplication store node m n t) × (nodes t ≡ nodes v.left + nodes v.right + 1))
unfolding nodes
parts_read {t} {store} {node} held told is =
    let v = held-application store node told t held is in
    (held, (v, omega (arith, ap nodes v.same)))

-- what closes the goal that the number after a right part is not 0
pub ruleset copying = (nodes_positive, parts_read, still_held)
