-- The bytes of a term, and the term of any bytes, or the offset of refusal 10.
use Rattle.std.specs.Prelude.{ℕ, zero, suc, ◌-◌, ◌/◌, ◌%◌, Bool, true, false, List, [], ◌∷◌, ◌++◌, leb, length, take, drop}
use Rattle.calculus.specs.Term.{Term, var, lam, app}
use Rattle.calculus.specs.Numbers.{from_digits}
use Rattle.calculus.specs.Refusal.{Answer, given, refused, not_a_term}

-- n in k + 1 bytes, low byte first; the last has all that is left, which is a byte where n is below 256 ^ (k + 1)
unfoldable pub digits : ℕ → ℕ → List ℕ
digits zero n = n ∷ []
digits (suc k) n = n % 256 ∷ digits k (n / 256)

-- root first, left before right: one byte of kind, then eight bytes of index, or one term, or two
unfoldable pub encode : Term → List ℕ
unfolding digits
encode (var i) = 1 ∷ digits 7 i
encode (lam b) = 2 ∷ encode b
encode (app l r) = 3 ∷ (encode l ++ encode r)

-- a term and the bytes that remain after it, or those that remain where no term is
pub data Found : Type 0 where
  found : Term → List ℕ → Found
  missing : List ℕ → Found

-- a variable has all of its eight bytes
abbrev pub variable_if : Bool → List ℕ → Found
variable_if true bs = found (var (from_digits 256 (take 8 bs))) (drop 8 bs)
variable_if false bs = missing (1 ∷ bs)

abbrev pub under : Found → Found
under (found b rest) = found (lam b) rest
under (missing at) = missing at

abbrev pub beside : Term → Found → Found
beside l (found r rest) = found (app l r) rest
beside l (missing at) = missing at

abbrev pub two_parts : Found → (List ℕ → Found) → Found
two_parts (found l rest) next = beside l (next rest)
two_parts (missing at) next = missing at

-- what a kind byte asks of the bytes after it, by how a term is read from those
unfoldable pub of_kind : (List ℕ → Found) → ℕ → List ℕ → Found
unfolding from_digits
of_kind next zero bs = missing (0 ∷ bs)
of_kind next (suc zero) bs = variable_if (leb 8 (length bs)) bs
of_kind next (suc (suc zero)) bs = under (next bs)
of_kind next (suc (suc (suc zero))) bs = two_parts (next bs) next
of_kind next (suc (suc (suc (suc k)))) bs = missing (suc (suc (suc (suc k))) ∷ bs)

-- the term that bytes begin with, nested at most so deep; each level takes a byte, so as many as bytes are enough
unfoldable pub term_in : ℕ → List ℕ → Found
unfolding of_kind
term_in zero s = missing s
term_in (suc deep) [] = missing []
term_in (suc deep) (k ∷ bs) = of_kind (term_in deep) k bs

-- one whole term, or refusal 10 where it breaks off or ends too early
abbrev pub whole : List ℕ → Found → Answer Term
whole s (found t []) = given t
whole s (found t (b ∷ rest)) = refused (not_a_term (length s - suc (length rest)))
whole s (missing at) = refused (not_a_term (length s - length at))

unfoldable pub decode : List ℕ → Answer Term
unfolding term_in
decode s = whole s (term_in (length s) s)
