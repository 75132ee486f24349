-- Which named term a node is that was put.
use Prim.Native.Nat.{ℕ, ◌+◌, ◌*◌, ◌/◌, ◌%◌, ◌<◌}
use mathlib.Core.Path.{◌≡◌, ◌∙◌}
use mathlib.Core.List.{List}
use native.Mathlib.Omega.{arith}
use Rattle.nodes.specs.Store.{link}
use Rattle.nodes.proofs.Stored.{Stored}
use Rattle.eta.specs.Named.{Named, bound, loose, binds, joins, lone}
use Rattle.eta.specs.Store.{Names, binder_word}
use Rattle.eta.proofs.Kept.{names-kept}

module _ {xs ys : List ℕ} {u w x : ℕ} (new : Stored xs ys u w x) where
  pub bound-stored : w ≡ 0 → Names ys (bound x) u
  unfolding Names
  bound-stored kind = (new.word_is ∙ kind, new.link_is)

  pub loose-stored : w ≡ 1 → Names ys (loose x) u
  unfolding Names
  loose-stored kind = (new.word_is ∙ kind, new.link_is)

  pub binds-stored : (k : ℕ) (b : Named) → w ≡ binder_word k (lone k b) → x < u → Names xs b x → Names ys (binds k b) u
  unfolding Names
  binds-stored k b kind below part =
      let kept = names-kept b x new.same below part in
      let x_is = new.link_is in
      (new.word_is ∙ kind, rw x_is below, rw x_is kept)

  pub joins-stored : {m n : ℕ} (l r : Named) → w ≡ 3 → x ≡ m + 4294967296 * n → m < 4294967296 → m < u → n < u
      → Names xs l m → Names xs r n → Names ys (joins l r) u
  unfolding Names
  joins-stored {m} {n} l r kind pair low m_below n_below left right =
      let l_kept = names-kept l m new.same m_below left in
      let r_kept = names-kept r n new.same n_below right in
      let m_is : link ys u % 4294967296 ≡ m = omega (arith, new.link_is) in
      let n_is : link ys u / 4294967296 ≡ n = omega (arith, new.link_is) in
      (new.word_is ∙ kind, rw m_is m_below, rw n_is n_below, rw m_is l_kept, rw n_is r_kept)
