-- The value of a hex digit.
use Rattle.std.specs.Prelude.{ℕ, ◌-◌, cond, Option, Some, None}
use Rattle.calculus.specs.Numbers.{between}

-- none for any other byte
unfoldable pub hex_digit : ℕ → Option ℕ
hex_digit b =
    cond (between 48 57 b) (Some (b - 48))
    (cond (between 65 70 b) (Some (b - 55)) (cond (between 97 102 b) (Some (b - 87)) None))
