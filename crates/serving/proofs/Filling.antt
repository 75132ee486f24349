-- What a read brings behind what is there already: both together are what the reader had first; and that a buffer keeps
-- its length.
use Rattle.std.proofs.Common.{ℕ, ◌+◌, ◌-◌, ◌≤◌, ◌≡◌, List, ◌++◌, length, take, sym, ap, ap₂, ◌∙◌, subst, le_refl, drop_at, length-take-le}
use Rattle.std.specs.Prelude.{Option}
use Rattle.std.specs.Io.KnownBytes.{Consumes}
use Rattle.std.proofs.KnownBytes.{Consumes-trans}
use Rattle.std.proofs.lemmas.Slice.{take-put_mid_below}
use borrow.Rule.Slice.PartMut.{mid_of, put_mid, post_of, same_len_mid}
use lib.Seq.{take-add, take-append-le}

-- a buffer whose end was lent
pub as_long : (from : ℕ) (buf part : List ℕ) → length part ≡ length (mid_of from (length buf - from) buf)
    → length (put_mid from (length buf - from) buf part) ≡ length buf
as_long from buf part e = same_len_mid from (length buf - from) buf part e

module _ (buf part : List ℕ) (from n : ℕ) (within : from ≤ length buf) (fits : n ≤ length part) where
  abbrev after : List ℕ
  after = put_mid from (length buf - from) buf part

  joined : take (from + n) after ≡ take from buf ++ take n part
  joined =
      let behind : List ℕ = post_of from (length buf - from) buf in
      take-add from n after
      ∙ ap₂ (λ xs ys. xs ++ ys) (take-put_mid_below _ _ _ _ _ (le_refl _) within)
      (ap (take n) (drop_at (take from buf) (part ++ behind) from (length-take-le from buf within))
      ∙ take-append-le n part behind fits)

  pub filled_on : (old now new : Option (List ℕ)) → Consumes old now (take from buf) → Consumes now new (take n part)
      → Consumes old new (take (from + n) after)
  filled_on old now new before more =
      subst (Consumes old new) (sym joined) (Consumes-trans old now new _ _ before more)
