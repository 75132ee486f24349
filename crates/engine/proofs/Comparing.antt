-- What a comparison of two reasons to stop tells.
use mathlib.Core.Path.{◌≡◌, sym, ◌∙◌}
use mathlib.Core.Bool.{Bool, true, false, not}
use denote.Enum.Bare.{sameb, same_true, same_false, differs_true, differs_false}
use Rattle.engine.specs.declared.Stop.{Stop}
use Rattle.engine.specs.contracts.Stop.{the_type}

module _ {b : Bool} {m n : Stop} where
  pub eq_true : b ≡ sameb the_type m n → b ≡ true → m ≡ n
  eq_true tells is = same_true the_type tt m n (sym tells ∙ is)

  pub eq_false : b ≡ sameb the_type m n → b ≡ false → m ≡ n → ⊥
  eq_false tells is = same_false the_type m n (sym tells ∙ is)

  pub ne_true : b ≡ not (sameb the_type m n) → b ≡ true → m ≡ n → ⊥
  ne_true tells is = differs_true the_type m n (sym tells ∙ is)

  pub ne_false : b ≡ not (sameb the_type m n) → b ≡ false → m ≡ n
  ne_false tells is = differs_false the_type tt m n (sym tells ∙ is)
