-- What is read from a node says of the scope of the named term that it is.
use Prim.Native.Nat.{ℕ, ◌≤◌, ◌<◌}
use mathlib.Core.Path.{◌≡◌}
use mathlib.Core.List.{List, ◌∷◌}
use Rattle.calculus.specs.Bounds.{most_height}
use Rattle.eta.specs.Named.{Named, binds}
use Rattle.eta.specs.Scope.{Among, Scoped, top}
use Rattle.eta.specs.Store.{Names, node_at}
use Rattle.eta.specs.declared.named.Binder.{Binder}
use Rattle.eta.specs.declared.named.Node.TheVariants as read
use Rattle.eta.proofs.Parts.{named-bound, named-abstraction, named-application}

-- under a binder
pub record Under (around : List ℕ) (level : ℕ) (body : Named) : Type 0 where
  pub above : top around ≤ level
  pub low : level < most_height
  pub scoped : Scoped (level ∷ around) body

module _ (room : List ℕ) (node : ℕ) (t : Named) (around : List ℕ) (scoped : Scoped around t) where
  pub bound-scoped : {k : ℕ} → node_at room node ≡ read.Bound k → Names room t node → Among k around
  unfolding Scoped
  bound-scoped is h = rw (named-bound room node t is h) at scoped

  pub body-scoped : {binder : Binder} {x : ℕ} (is : node_at room node ≡ read.Abstraction binder x)
      (h : Names room t node)
      → let v = named-abstraction room node t is h in Under around binder.level v.body
  unfolding Scoped
  body-scoped {binder} is h =
      let v = named-abstraction room node t is h in
      let (above, low, inner) : Scoped around (binds binder.level v.body) = rw v.same at scoped in
      record { above = above; low = low; scoped = inner }

  pub parts-scoped : {l r : ℕ} (is : node_at room node ≡ read.Application l r) (h : Names room t node)
      → let v = named-application room node t is h in Scoped around v.left × Scoped around v.right
  unfolding Scoped
  parts-scoped is h = rw (named-application room node t is h).same at scoped
