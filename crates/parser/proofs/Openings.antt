-- What is open: what is added, and how a name is looked up from the innermost on.
use Prim.Native.Nat.{ℕ, zero, suc, ◌<◌}
use mathlib.Core.Path.{◌≡◌, refl, ap}
use mathlib.Core.Bool.{true, false}
use mathlib.Core.List.{List, [], ◌∷◌}
use mathlib.Core.Option.{some}
use Rattle.std.specs.Prelude.{Option, Some, None}
use native.Mathlib.Omega.{arith}
use lib.ListN.{length, get_or}
use Rattle.calculus.specs.Bounds.{most_open}
use Rattle.calculus.specs.Characters.{same_text}
use Rattle.calculus.specs.Walk.{resolved}
use Rattle.words.specs.Places.{name_of}
use Rattle.parser.specs.declared.tokens.Binder.{Binder}
use Rattle.parser.specs.Opens.{name_at, open_of, entry, before_end, opener, opens, Held, Opened}

pub opens-length : (s : List ℕ) (stack : List Binder) → length (opens s stack) ≡ length stack
unfolding opens
opens-length s [] = refl
opens-length s (w ∷ ws) = ap suc (opens-length s ws)

-- AN ENTRY OF THE STACK
pub is-group : (x : Binder) → x.to ≡ 0 → opener x ≡ None
is-group x e = ap (λ n. before_end n x) e

pub is-named : (x : Binder) → (x.to ≡ 0 → ⊥) → opener x ≡ Some x
is-named x some_after = named x.to some_after
  where
    named : (n : ℕ) → (n ≡ 0 → ⊥) → before_end n x ≡ Some x
    named zero n = absurd (n refl)
    named (suc m) n = refl

-- what opens is told by its entry
pub opener-entry : (s : List ℕ) (w : Option Binder) → Held s w → opener (entry w) ≡ w
opener-entry s None held = refl
opener-entry s (Some x) held = is-named x (λ e. omega (arith, e, held.0, held.1.forward))

-- ONE MORE OPEN
module _ (s : List ℕ) (stack : List Binder) (w : Option Binder) (held : Held s w) where
  pub opens_more : opens s (entry w ∷ stack) ≡ open_of s w ∷ opens s stack
  unfolding opens
  opens_more = ap (λ o. open_of s o ∷ opens s stack) (opener-entry s w held)

  pub opened_more : Opened s stack → length stack < most_open → Opened s (entry w ∷ stack)
  opened_more before few = record { few = omega arith; inside = inside }
    where
      inside : (k : ℕ) → k < suc (length stack) → Held s (opener (get_or (entry w ∷ stack) k (entry None)))
      inside zero lt = rw (opener-entry s w held) held
      inside (suc k) lt = before.inside k (omega arith)

-- LOOKING UP a name, from the innermost of those that are left
module _ (s : List ℕ) (x : List ℕ) (i : ℕ) (stack : List Binder) (y : Binder) where
  pub past-group : opener y ≡ None → resolved x i (opens s (y ∷ stack)) ≡ resolved x i (opens s stack)
  unfolding opens resolved
  past-group is = rw is

  module _ (is : opener y ≡ Some y) where
    pub is-binder : same_text x (name_of s (name_at y)) ≡ true
        → resolved x i (opens s (y ∷ stack)) ≡ some i
    unfolding opens resolved
    is-binder e = rw (is, e)

    pub past-binder : same_text x (name_of s (name_at y)) ≡ false
        → resolved x i (opens s (y ∷ stack)) ≡ resolved x (suc i) (opens s stack)
    unfolding opens resolved
    past-binder e = rw (is, e)
