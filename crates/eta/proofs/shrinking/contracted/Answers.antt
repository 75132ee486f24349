-- `eta::shrinking::contracted` meets its contract: each answer is a law of `Readiness`.
use mathlib.Core.Path.{◌≡◌, sym, ◌∙◌}
use mathlib.Core.Bool.{true}
use borrow.Author.Rules.{rules}
use Rattle.std.proofs.lemmas.Bool.{not-false}
use Rattle.eta.specs.declared.named.Node.TheVariants as read
use Rattle.eta.proofs.Readiness.{last-inside, no-application, applied_elsewhere, applied_to-binder}
use Rattle.eta.proofs.shrinking.contracted.Goals as goal

pub named_at-requires-2 : goal.named_at-requires-2
named_at-requires-2 c = last-inside (sym c.in-Application.ensures.read) c.requires

pub returns-then-eq : goal.returns-then-eq
returns-then-eq c =
    let same : c.named_at-2.result ≡ read.Bound c.args.binder.level = search rules in
    let linear : c.args.binder.linear ≡ true = not-false _ c.if-not-binder.false in
    applied_to-binder (sym c.in-Application.ensures.read) linear (sym c.named_at-2.ensures.read ∙ same)

pub returns-else-eq : goal.returns-else-eq
returns-else-eq c =
    let other : c.named_at-2.result ≡ read.Bound c.args.binder.level → ⊥ = search rules in
    applied_elsewhere (sym c.in-Application.ensures.read)
    (λ e. other (c.named_at-2.ensures.read ∙ e))

pub returns-in_default : goal.returns-in_default
returns-in_default c = no-application (λ l r e. c.in_default.not-Application l r (c.named_at.ensures.read ∙ e))
