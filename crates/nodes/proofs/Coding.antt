-- The bytes of a term that is put into a slice, one after another.
use Rattle.std.specs.Prelude.{ℕ, ◌≡◌, ◌+◌, ◌≤◌, ◌<◌, ◌^◌, ◌-◌, ◌/◌, List, [], ◌∷◌, length, set}
use Rattle.std.specs.Int.{to_le_bytes, w64}
use Rattle.std.proofs.Common.{refl, arith, sym, append_assoc}
use Rattle.std.proofs.Math.Nat.{div-div-eq-div-mul, mod-eq_of_lt}
use Rattle.std.proofs.lemmas.List.Edits.{sets-eq}
use borrow.Rule.Slice.PartMut.{put_mid}
use lib.Seq.{drop-drop}
use Rattle.calculus.specs.Bytes.{digits}
use Rattle.calculus.proofs.Putting.{Puts}

-- one byte, or one number, is put
pub one_put : {out : List ℕ} {to next : ℕ} (b : ℕ) → next ≡ to + 1 → Puts out to (b ∷ []) next (set out to b)
one_put b e = record { reached = e; stored = refl }

-- THE INDEX of a variable: its eight bytes are those that std makes of it
eight_bytes : (n : ℕ) → n < 2 ^ 64 → digits 7 n ≡ to_le_bytes w64 n
unfolding digits
eight_bytes n h =
    let top : n / 72057594037927936 < 256 = omega arith in
    simp (div-div-eq-div-mul, mod-eq_of_lt {n = n / 72057594037927936} {m = 256} top)

pub put_eight : (out : List ℕ) (at n : ℕ) {bytes : List ℕ} → at + 8 ≤ length out → n < 2 ^ 64
    → bytes ≡ to_le_bytes w64 n → Puts out at (digits 7 n) (at + 8) (put_mid at (at + 8 - at) out bytes)
put_eight out at n inside h e =
    let eight : at + 8 - at ≡ 8 = omega arith in
    rw (eight_bytes n h)
    (record {
      reached = refl;
      stored = rw (eight, e, drop-drop) (sym (rw append_assoc at (sets-eq (to_le_bytes w64 n) out at inside)));
    })
