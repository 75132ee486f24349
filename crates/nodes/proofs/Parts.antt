-- What a node that was read says of the term that it is: which it is, and where its parts are.
use Prim.Native.Nat.{ℕ, ◌/◌, ◌%◌, ◌<◌}
use mathlib.Core.Path.{◌≡◌, refl, sym}
use mathlib.Core.List.{List}
use native.Mathlib.Omega.{arith}
use Rattle.calculus.specs.Term.{Term, var, lam, app}
use Rattle.nodes.specs.Packing.{kind_in}
use Rattle.nodes.specs.Store.{Holds, word, link, kind}
use Rattle.nodes.specs.Node.{node_in}
use Rattle.nodes.specs.declared.Node.{Node}
use Rattle.nodes.specs.declared.Node.TheVariants.{Variable, Abstraction, Application}

-- by the kind
module _ (w x : ℕ) where
  pub reads_variable : kind_in w ≡ 1 → node_in w x ≡ Variable x
  unfolding node_in
  reads_variable is = simp is

  pub reads_abstraction : kind_in w ≡ 2 → node_in w x ≡ Abstraction x
  unfolding node_in
  reads_abstraction is = simp is

  pub reads_application : kind_in w ≡ 3 → node_in w x ≡ Application (x % 4294967296) (x / 4294967296)
  unfolding node_in
  reads_application is = simp is

module _ (xs : List ℕ) (n : ℕ) where
  pub record HeldAbstraction (b : ℕ) (t : Term) : Type 0 where
    pub body : Term
    pub body_is : b ≡ link xs n
    pub same : t ≡ lam body
    pub below : b < n
    pub held : Holds xs body b

  pub record HeldApplication (l r : ℕ) (t : Term) : Type 0 where
    pub left : Term
    pub right : Term
    pub left_is : l ≡ link xs n % 4294967296
    pub right_is : r ≡ link xs n / 4294967296
    pub same : t ≡ app left right
    pub left_below : l < n
    pub right_below : r < n
    pub left_held : Holds xs left l
    pub right_held : Holds xs right r

  module _ {found : Node} (told : found ≡ node_in (word xs n) (link xs n)) where
    pub held-variable : (t : Term) → Holds xs t n → {i : ℕ} → found ≡ Variable i → t ≡ var i
    unfolding Holds kind
    held-variable (var j) h is = cc (told, is, h.1, reads_variable (word xs n) (link xs n) h.0.kind_is)
    held-variable (lam b) h is =
        let never : ◌≡◌ {A = ℕ} 0 1 = cc (told, is, reads_abstraction (word xs n) (link xs n) h.0.kind_is) in
        absurd (omega arith)
    held-variable (app l r) h is =
        let never : ◌≡◌ {A = ℕ} 0 1 = cc (told, is, reads_application (word xs n) (link xs n) h.0.kind_is) in
        absurd (omega arith)

    pub held-abstraction : (t : Term) → Holds xs t n → {b : ℕ} → found ≡ Abstraction b → HeldAbstraction b t
    unfolding Holds kind
    held-abstraction (var j) h is =
        let never : ◌≡◌ {A = ℕ} 0 1 = cc (told, is, reads_variable (word xs n) (link xs n) h.0.kind_is) in
        absurd (omega arith)
    held-abstraction (lam u) h {b} is =
        let e : link xs n ≡ b = cc (told, is, reads_abstraction (word xs n) (link xs n) h.0.kind_is) in
        record { body = u; body_is = sym e; same = refl; below = rw e at h.1; held = rw e at h.2 }
    held-abstraction (app l r) h is =
        let never : ◌≡◌ {A = ℕ} 0 1 = cc (told, is, reads_application (word xs n) (link xs n) h.0.kind_is) in
        absurd (omega arith)

    pub held-application : (t : Term) → Holds xs t n → {l r : ℕ} → found ≡ Application l r → HeldApplication l r t
    unfolding Holds kind
    held-application (var j) h is =
        let never : ◌≡◌ {A = ℕ} 0 1 = cc (told, is, reads_variable (word xs n) (link xs n) h.0.kind_is) in
        absurd (omega arith)
    held-application (lam b) h is =
        let never : ◌≡◌ {A = ℕ} 0 1 = cc (told, is, reads_abstraction (word xs n) (link xs n) h.0.kind_is) in
        absurd (omega arith)
    held-application (app t u) h {l} {r} is =
        let whole = reads_application (word xs n) (link xs n) h.0.kind_is in
        let m : link xs n % 4294967296 ≡ l = cc (told, is, whole) in
        let k : link xs n / 4294967296 ≡ r = cc (told, is, whole) in record {
          left = t;
          right = u;
          left_is = sym m;
          right_is = sym k;
          same = refl;
          left_below = rw m at h.1;
          right_below = rw k at h.2;
          left_held = rw m at h.3;
          right_held = rw k at h.4;
        }
