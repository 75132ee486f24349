-- What is read from a node says of the named term that it is: which it is, and where its parts are.
use Prim.Native.Nat.{ℕ, ◌/◌, ◌%◌, ◌<◌}
use mathlib.Core.Path.{◌≡◌, refl, sym, ◌∙◌}
use mathlib.Core.Bool.{Bool, true, false}
use mathlib.Core.List.{List}
use native.Mathlib.Omega.{arith}
use Rattle.nodes.specs.Store.{word, link}
use Rattle.eta.specs.Named.{Named, bound, loose, binds, joins, lone}
use Rattle.eta.specs.Store.{Names, binder_word, node_in, node_at}
use Rattle.eta.specs.declared.named.Binder.{Binder}
use Rattle.eta.specs.declared.named.Node.{Node}
use Rattle.eta.specs.declared.named.Node.TheVariants as read

-- two numbers of which the first has a level, and whether the binder is linear
read-binder : {w : ℕ} (x k : ℕ) (alone : Bool) → w ≡ binder_word k alone
    → node_in w x ≡ read.Abstraction (record { level = k; linear = alone }) x
read-binder {w} x k true e =
    let kind : w % 4 ≡ 2 = omega arith in
    let level : w / 8 ≡ k = omega arith in
    let linear : w / 4 % 2 ≡ 1 = omega arith in
    rw (kind, level, linear) refl
read-binder {w} x k false e =
    let kind : w % 4 ≡ 2 = omega arith in
    let level : w / 8 ≡ k = omega arith in
    let linear : w / 4 % 2 ≡ 0 = omega arith in
    rw (kind, level, linear) refl

module _ (xs : List ℕ) (n : ℕ) where
  -- WHAT IS READ from a node that is a named term
  abbrev pub reading : Named → Node
  reading (bound k) = read.Bound k
  reading (loose j) = read.Free j
  reading (binds k b) = read.Abstraction (record { level = k; linear = lone k b }) (link xs n)
  reading (joins l r) = read.Application (link xs n % 4294967296) (link xs n / 4294967296)

  pub reads : (t : Named) → Names xs t n → node_at xs n ≡ reading t
  unfolding Names
  reads (bound k) (w, x) = rw (w, x) refl
  reads (loose j) (w, x) = rw (w, x) refl
  reads (binds k b) h = read-binder (link xs n) k (lone k b) h.0
  reads (joins l r) h = rw h.0 refl

  -- AND WHAT THAT SAYS of the term
  pub record Abstraction (binder : Binder) (x : ℕ) (t : Named) : Type 0 where
    pub body : Named
    pub same : t ≡ binds binder.level body
    pub linear_is : binder.linear ≡ lone binder.level body
    pub word_is : word xs n ≡ binder_word binder.level binder.linear
    pub link_is : link xs n ≡ x
    pub below : x < n
    pub names : Names xs body x

  pub record Application (l r : ℕ) (t : Named) : Type 0 where
    pub left : Named
    pub right : Named
    pub same : t ≡ joins left right
    pub left_is : link xs n % 4294967296 ≡ l
    pub right_is : link xs n / 4294967296 ≡ r
    pub left_below : l < n
    pub right_below : r < n
    pub left_names : Names xs left l
    pub right_names : Names xs right r

  pub named-bound : {k : ℕ} (t : Named) → node_at xs n ≡ read.Bound k → Names xs t n → t ≡ bound k
  named-bound {k} (bound m) is h = let e : read.Bound m ≡ read.Bound k = sym (reads (bound m) h) ∙ is in cc
  named-bound (loose j) is h = let z : ◌≡◌ {A = ℕ} 0 1 = let e = sym (reads (loose j) h) ∙ is in cc in absurd (omega arith)
  named-bound (binds m b) is h = let z : ◌≡◌ {A = ℕ} 0 1 = let e = sym (reads (binds m b) h) ∙ is in cc in absurd (omega arith)
  named-bound (joins l r) is h = let z : ◌≡◌ {A = ℕ} 0 1 = let e = sym (reads (joins l r) h) ∙ is in cc in absurd (omega arith)

  pub named-free : {i : ℕ} (t : Named) → node_at xs n ≡ read.Free i → Names xs t n → t ≡ loose i
  named-free {i} (loose j) is h = let e : read.Free j ≡ read.Free i = sym (reads (loose j) h) ∙ is in cc
  named-free (bound m) is h = let z : ◌≡◌ {A = ℕ} 0 1 = let e = sym (reads (bound m) h) ∙ is in cc in absurd (omega arith)
  named-free (binds m b) is h = let z : ◌≡◌ {A = ℕ} 0 1 = let e = sym (reads (binds m b) h) ∙ is in cc in absurd (omega arith)
  named-free (joins l r) is h = let z : ◌≡◌ {A = ℕ} 0 1 = let e = sym (reads (joins l r) h) ∙ is in cc in absurd (omega arith)

  pub named-abstraction : {binder : Binder} {x : ℕ} (t : Named) → node_at xs n ≡ read.Abstraction binder x
      → Names xs t n → Abstraction binder x t
  unfolding Names
  named-abstraction {binder} {x} (binds k b) is h =
      let e : read.Abstraction (record { level = k; linear = lone k b }) (link xs n) ≡ read.Abstraction binder x =
      sym (reads (binds k b) h) ∙ is in
      let here : (record { level = k; linear = lone k b }) ≡ binder = cc in
      let there : link xs n ≡ x = cc in
      rw (sym here, sym there) (record {
        body = b;
        same = refl;
        linear_is = refl;
        word_is = h.0;
        link_is = refl;
        below = h.1;
        names = h.2;
      })
  named-abstraction (bound m) is h = let z : ◌≡◌ {A = ℕ} 0 1 = let e = sym (reads (bound m) h) ∙ is in cc in absurd (omega arith)
  named-abstraction (loose j) is h = let z : ◌≡◌ {A = ℕ} 0 1 = let e = sym (reads (loose j) h) ∙ is in cc in absurd (omega arith)
  named-abstraction (joins l r) is h = let z : ◌≡◌ {A = ℕ} 0 1 = let e = sym (reads (joins l r) h) ∙ is in cc in absurd (omega arith)

  pub named-application : {l r : ℕ} (t : Named) → node_at xs n ≡ read.Application l r → Names xs t n
      → Application l r t
  unfolding Names
  named-application {l} {r} (joins f a) is h =
      let e : read.Application (link xs n % 4294967296) (link xs n / 4294967296) ≡ read.Application l r =
      sym (reads (joins f a) h) ∙ is in
      let here : link xs n % 4294967296 ≡ l = cc in
      let there : link xs n / 4294967296 ≡ r = cc in
      rw (sym here, sym there) (record {
        left = f;
        right = a;
        same = refl;
        left_is = refl;
        right_is = refl;
        left_below = h.1;
        right_below = h.2;
        left_names = h.3;
        right_names = h.4;
      })
  named-application (bound m) is h = let z : ◌≡◌ {A = ℕ} 0 1 = let e = sym (reads (bound m) h) ∙ is in cc in absurd (omega arith)
  named-application (loose j) is h = let z : ◌≡◌ {A = ℕ} 0 1 = let e = sym (reads (loose j) h) ∙ is in cc in absurd (omega arith)
  named-application (binds m b) is h = let z : ◌≡◌ {A = ℕ} 0 1 = let e = sym (reads (binds m b) h) ∙ is in cc in absurd (omega arith)
