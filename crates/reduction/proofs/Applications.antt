-- What `apply` answers where it comes to no contraction: the abstraction's refusals, the argument's, 11, and 1 and 2.
use Prim.Native.Nat.{ℕ}
use mathlib.Core.Path.{◌≡◌, refl}
use mathlib.Core.List.{List}
use lib.ListN.{length}
use Rattle.std.specs.Prelude.{Err}
use Rattle.calculus.specs.Term.{Term}
use Rattle.calculus.specs.Refusal.{refused, ◌then◌, not_abs}
use Rattle.calculus.specs.Outcomes.{checked, body_of, applied, stored, coded, lent, cap_allowed, suffice, apply_of}
use Rattle.term.specs.Answers.{refusal_of, told}
use Rattle.term.specs.Surveys.{Admitted}
use Rattle.term.specs.declared.Refusal.{Refusal}
use Rattle.term.specs.declared.Refusal.TheVariants.{NotAbs}
use Rattle.nodes.specs.Reading.{Taken}
use Rattle.nodes.specs.Working.{Works}
use Rattle.reduction.proofs.Contracting.{refuses_there}

module _ (cap : ℕ) (s u : List ℕ) {out store store' : List ℕ} (long : length store' ≡ length store) where
  pub first-refused : (why : Refusal) → checked cap s ≡ refused (refusal_of why)
      → Works (stored (applied cap s u then coded) out) store (told {A = ℕ} (Err why)) out store'
  unfolding applied
  first-refused why e = refuses_there why out long (rw e)

  module _ (first : Admitted cap s) where
    pub second-refused : (why : Refusal) → checked cap u ≡ refused (refusal_of why)
        → Works (stored (applied cap s u then coded) out) store (told {A = ℕ} (Err why)) out store'
    unfolding applied
    second-refused why e = refuses_there why out long (rw (first.passes, e))

    -- 11
    pub no_body : Admitted cap u → {t : Term} → first.term ≡ t → body_of t ≡ refused not_abs
        → Works (stored (applied cap s u then coded) out) store (told {A = ℕ} (Err NotAbs)) out store'
    unfolding applied
    no_body second is e = refuses_there NotAbs out long (rw (first.passes, second.passes, is, e))

-- AN INPUT'S REFUSAL, as the check finds it for `work`: of the answer and the output
module _ (cap : ℕ) (s u out : List ℕ) (why : Refusal) where
  pub first_told : checked cap s ≡ refused (refusal_of why)
      → (told {A = ℕ} (Err why), out) ≡ stored (applied cap s u then coded) out
  first_told e = (first-refused cap s u {store = out} refl why e).stores

  pub second_told : {top : ℕ} {mid : List ℕ} → Taken cap s 0 top mid → checked cap u ≡ refused (refusal_of why)
      → (told {A = ℕ} (Err why), out) ≡ stored (applied cap s u then coded) out
  second_told one e = (second-refused cap s u {store = out} refl one.input why e).stores

-- 1 AND 2, and the work after them
pub apply_lent : (cap : ℕ) (s u out room : List ℕ)
    → apply_of cap s u out room
    ≡ lent refused (cap_allowed cap) (suffice cap out room) cap (stored (applied cap s u then coded) out) out room
unfolding apply_of
apply_lent cap s u out room = refl
