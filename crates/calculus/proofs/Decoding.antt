-- Reading a term moves forward, so that as many levels as bytes are enough, and the offset of refusal 10 lies in the
-- input.
use Prim.Native.Nat.{ℕ, zero, suc, ◌-◌, ◌≤◌, ◌<◌}
use mathlib.Core.Path.{◌≡◌, refl, ap, ◌∙◌}
use mathlib.Core.Bool.{Bool, true, false}
use mathlib.Core.List.{List, [], ◌∷◌}
use native.Mathlib.Omega.{arith}
use lib.Dec.{leb}
use lib.ListN.{length, drop, length-drop}
use Rattle.calculus.specs.Term.{Term}
use Rattle.calculus.specs.Refusal.{refused, not_a_term}
use Rattle.calculus.specs.Bytes.{Found, found, missing, variable_if, under, beside, two_parts, of_kind, term_in}
use Rattle.calculus.specs.Bytes.{whole, decode}

-- what remains is shorter than what was read, or is where the reading broke off
pub data Forward (s : List ℕ) : Found → Type 0 where
  past : {t : Term} (rest : List ℕ) → length rest < length s → Forward s (found t rest)
  stops : (at : List ℕ) → length at ≤ length s → Forward s (missing at)

forward-variable : (bs : List ℕ) (b : Bool) → Forward (1 ∷ bs) (variable_if b bs)
forward-variable bs true = past (drop 8 bs) (omega (arith, length-drop 8 bs))
forward-variable bs false = stops (1 ∷ bs) (omega arith)

forward-under : {k : ℕ} {bs : List ℕ} {f : Found} → Forward bs f → Forward (k ∷ bs) (under f)
forward-under (past rest h) = past rest (omega arith)
forward-under (stops at h) = stops at (omega arith)

forward-beside : {s rest : List ℕ} (l : Term) {f : Found} → length rest < length s → Forward rest f
    → Forward s (beside l f)
forward-beside l h (past rest k) = past rest (omega arith)
forward-beside l h (stops at k) = stops at (omega arith)

forward_two : {k : ℕ} {bs : List ℕ} {f : Found} (next : List ℕ → Found) → ((s : List ℕ) → Forward s (next s))
    → Forward bs f
    → Forward (k ∷ bs) (two_parts f next)
forward_two next ih (past {t = l} rest h) = forward-beside l (omega arith) (ih rest)
forward_two next ih (stops at h) = stops at (omega arith)

forward-kind : (next : List ℕ → Found) → ((s : List ℕ) → Forward s (next s)) → (k : ℕ) (bs : List ℕ)
    → Forward (k ∷ bs) (of_kind next k bs)
unfolding of_kind
forward-kind next ih zero bs = stops (0 ∷ bs) (omega arith)
forward-kind next ih (suc zero) bs = forward-variable bs (leb 8 (length bs))
forward-kind next ih (suc (suc zero)) bs = forward-under (ih bs)
forward-kind next ih (suc (suc (suc zero))) bs = forward_two next ih (ih bs)
forward-kind next ih (suc (suc (suc (suc k)))) bs = stops (suc (suc (suc (suc k))) ∷ bs) (omega arith)

pub term-forward : (deep : ℕ) (s : List ℕ) → Forward s (term_in deep s)
unfolding term_in
term-forward zero s = stops s (omega arith)
term-forward (suc deep) [] = stops [] (omega arith)
term-forward (suc deep) (k ∷ bs) = forward-kind (term_in deep) (term-forward deep) k bs

-- two ways to read on that agree on what is no longer
same_two : {bs : List ℕ} {f : Found} (next next' : List ℕ → Found)
    → ((s : List ℕ) → length s ≤ length bs → next s ≡ next' s) → Forward bs f
    → two_parts f next ≡ two_parts f next'
same_two next next' same (past {t = l} rest h) = ap (beside l) (same rest (omega arith))
same_two next next' same (stops at h) = refl

same_kind : (next next' : List ℕ → Found) (k : ℕ) (bs : List ℕ)
    → ((s : List ℕ) → length s ≤ length bs → next s ≡ next' s) → Forward bs (next' bs)
    → of_kind next k bs ≡ of_kind next' k bs
unfolding of_kind
same_kind next next' zero bs same f = refl
same_kind next next' (suc zero) bs same f = refl
same_kind next next' (suc (suc zero)) bs same f = ap under (same bs (omega arith))
same_kind next next' (suc (suc (suc zero))) bs same f =
    ap (λ x. two_parts x next) (same bs (omega arith)) ∙ same_two next next' same f
same_kind next next' (suc (suc (suc (suc k)))) bs same f = refl

pub term-enough : (i j : ℕ) (s : List ℕ) → length s ≤ i → length s ≤ j → term_in i s ≡ term_in j s
unfolding term_in
term-enough zero zero [] f g = refl
term-enough zero (suc j) [] f g = refl
term-enough (suc i) zero [] f g = refl
term-enough (suc i) (suc j) [] f g = refl
term-enough zero zero (k ∷ bs) f g = absurd (omega arith)
term-enough zero (suc j) (k ∷ bs) f g = absurd (omega arith)
term-enough (suc i) zero (k ∷ bs) f g = absurd (omega arith)
term-enough (suc i) (suc j) (k ∷ bs) f g =
    same_kind (term_in i) (term_in j) k bs (λ s h. term-enough i j s (omega arith) (omega arith)) (term-forward j bs)

-- THE TERM THAT BYTES BEGIN WITH, in as many levels as there are bytes
abbrev pub first : List ℕ → Found
first s = term_in (length s) s

pub first-of_kind : (k : ℕ) (bs : List ℕ) → first (k ∷ bs) ≡ of_kind first k bs
unfolding term_in
first-of_kind k bs =
    same_kind (term_in (length bs)) first k bs (λ s h. term-enough (length bs) (length s) s h (omega arith))
    (term-forward (length bs) bs)

-- the offset of refusal 10 lies in the input, or just after it
pub offset_inside : (s : List ℕ) {offset : ℕ} → decode s ≡ refused (not_a_term offset) → offset ≤ length s
unfolding decode
offset_inside s {offset} e = read (term_in (length s) s) e
  where
    read : (f : Found) → whole s f ≡ refused (not_a_term offset) → offset ≤ length s
    read (found t []) e = let never : ◌≡◌ {A = ℕ} 0 1 = cc in absurd (omega arith)
    read (found t (b ∷ rest)) e = let same : length s - suc (length rest) ≡ offset = cc in omega arith
    read (missing at) e = let same : length s - length at ≡ offset = cc in omega arith
