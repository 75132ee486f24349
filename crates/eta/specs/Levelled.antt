-- An input that is let through, and numbers enough for the binders that can be open at once in it.
use Rattle.std.specs.Prelude.{ℕ, ◌≤◌, List}
use Rattle.calculus.specs.Term.{height}
use Rattle.term.specs.Surveys.{Admitted}

pub record Levelled (cap : ℕ) (s : List ℕ) (count : ℕ) : Type 0 where
  pub input : Admitted cap s
  pub enough : height input.term ≤ count
