-- Numbers in an interval, and numbers written in digits.
use Rattle.std.specs.Prelude.{ℕ, zero, suc, ◌+◌, ◌*◌, ◌/◌, ◌%◌, Bool, ◌&&◌, cond, List, [], ◌∷◌, ◌++◌, leb, ltb}

abbrev pub between : ℕ → ℕ → ℕ → Bool
between low high n = leb low n && leb n high

-- the character of a digit: 0 to 9, then A to F
abbrev pub figure : ℕ → ℕ
figure d = cond (ltb d 10) (48 + d) (55 + d)

-- a number in a base, high digit first: as many digits as it needs, of at most so many
unfoldable pub numeral : (base : ℕ) → ℕ → ℕ → List ℕ
numeral base zero n = []
numeral base (suc most) n = cond (ltb n base) [] (numeral base most (n / base)) ++ (figure (n % base) ∷ [])

-- the number that digits stand for, low digit first
unfoldable pub from_digits : (base : ℕ) → List ℕ → ℕ
from_digits base [] = 0
from_digits base (d ∷ ds) = d + base * from_digits base ds
