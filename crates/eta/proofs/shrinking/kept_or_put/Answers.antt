-- `eta::shrinking::kept_or_put` meets its contract.
use mathlib.Core.Path.{◌≡◌, refl, sym, ◌∙◌}
use mathlib.Core.Logic.{inl, inr}
use borrow.Author.Rules.{rules}
use Rattle.eta.proofs.shrinking.kept_or_put.Goals as goal

pub returns-then-eq : goal.returns-then-eq
returns-then-eq c =
    let same : c.named_at.result ≡ c.args.made = search rules in
    inl (sym c.named_at.ensures.read ∙ same, refl, refl)

pub returns : goal.returns
returns c = let (next, new) = c.put_named-work.ensures in inr (rw next refl, new)
