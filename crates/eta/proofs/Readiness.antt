-- Whether an abstraction is a place: by its binder, and by what its body is and what that is applied to.
use Rattle.std.specs.Prelude.{Some, None}
use Prim.Native.Nat.{ℕ, ◌+◌, ◌*◌, ◌≤◌, ◌<◌}
use mathlib.Core.Path.{◌≡◌, refl, ap, ◌∙◌, sym}
use mathlib.Core.Bool.{Bool, true, false, ◌&&◌, and-false, false≢true}
use mathlib.Core.List.{List}
use native.Mathlib.Omega.{arith}
use lib.ListN.{length}
use borrow.Author.Tests.{eq-eqb, ne_eqb}
use Rattle.eta.specs.Named.{Named, bound, loose, binds, joins, weight}
use Rattle.eta.specs.Shrinking.{ends_in, applied}
use Rattle.eta.specs.Store.{Names, node_at}
use Rattle.eta.specs.Shrinks.{Checkable, Contracts}
use Rattle.eta.specs.declared.named.Binder.{Binder}
use Rattle.eta.specs.declared.named.Node.TheVariants as read
use Rattle.eta.proofs.Parts.{reads, named-bound, named-application}

-- only an application ends in something
ends_nowhere : (xs : List ℕ) (n k : ℕ) (b : Named) → ((l r : ℕ) → node_at xs n ≡ read.Application l r → ⊥)
    → Names xs b n → ends_in k b ≡ false
ends_nowhere xs n k (bound m) other h = refl
ends_nowhere xs n k (loose j) other h = refl
ends_nowhere xs n k (binds m b) other h = refl
ends_nowhere xs n k (joins l r) other h = absurd (other _ _ (reads xs n (joins l r) h))

ends_elsewhere : (xs : List ℕ) (n k : ℕ) (l r : Named) → (node_at xs n ≡ read.Bound k → ⊥) → Names xs r n
    → ends_in k (joins l r) ≡ false
ends_elsewhere xs n k l (bound m) other h = ne_eqb m k (λ e. other (reads xs n (bound m) h ∙ ap read.Bound e))
ends_elsewhere xs n k l (loose j) other h = refl
ends_elsewhere xs n k l (binds m b) other h = refl
ends_elsewhere xs n k l (joins m r) other h = refl

-- what a place applies is lighter
pub lighter-place : (k : ℕ) (alone : Bool) (b : Named) → (alone && ends_in k b) ≡ true → weight (applied b) < weight b
unfolding weight
lighter-place k false b e = absurd (false≢true e)
lighter-place k true (bound m) e = absurd (false≢true e)
lighter-place k true (loose j) e = absurd (false≢true e)
lighter-place k true (binds m b) e = absurd (false≢true e)
lighter-place k true (joins l r) e = omega arith

-- what an application applies to lies inside
pub last-inside : {room : List ℕ} {body m last : ℕ} → node_at room body ≡ read.Application m last
    → Checkable room body → 2 * last + 2 ≤ length room
last-inside {room} {body} is asked =
    let v = named-application room body asked.term is asked.names in omega (arith, asked.inside, v.right_below)

module _ {room : List ℕ} {binder : Binder} {body : ℕ} where
  none-left : ((b : Named) → Names room b body → (binder.linear && ends_in binder.level b) ≡ false)
      → Contracts room binder body None
  none-left told = record {
    goes = λ m e. let z : ◌≡◌ {A = ℕ} 0 1 = cc in absurd (omega arith);
    stays = λ _ b h. told b h;
  }

  pub no-application : ((l r : ℕ) → node_at room body ≡ read.Application l r → ⊥) → Contracts room binder body None
  no-application other =
      none-left (λ b h. rw (ends_nowhere room body binder.level b other h) (and-false binder.linear))

  module _ {m last : ℕ} (is : node_at room body ≡ read.Application m last) where
    pub applied_elsewhere : (node_at room last ≡ read.Bound binder.level → ⊥) → Contracts room binder body None
    applied_elsewhere other =
        none-left (λ b h.
        let v = named-application room body b is h in
        let none = ends_elsewhere room last binder.level v.left v.right other v.right_names in
        rw (v.same, none) (and-false binder.linear))

    pub applied_to-binder : binder.linear ≡ true → node_at room last ≡ read.Bound binder.level
        → Contracts room binder body (Some m)
    applied_to-binder linear last_is = record {
      goes = λ n e b h.
          let v = named-application room body b is h in
          let named = named-bound room last v.right last_is v.right_names in
          let here : m ≡ n = cc in
          rw (sym here, v.same, named, linear, eq-eqb binder.level binder.level refl)
          (refl, v.left_below, v.left_names);
      stays = λ e. let z : ◌≡◌ {A = ℕ} 0 1 = cc in absurd (omega arith);
    }
