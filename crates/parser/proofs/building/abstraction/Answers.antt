-- `parser::building::abstraction` meets its contract.
use mathlib.Core.Path.{refl}
use mathlib.Core.Logic.{inl, inr}
use native.Mathlib.Omega.{arith}
use Rattle.parser.proofs.Built.{encloses, no_body, empty-body, body-height, can_enclose}
use Rattle.nodes.proofs.Keeping.{same_refl}
use Rattle.parser.proofs.building.abstraction.Goals as goal

pub overflow_add-height : goal.overflow_add-height
overflow_add-height c =
    omega (arith, body-height _ c.in-Term.is c.requires.1, c.requires.0.few)

pub returns-then-cap-used : goal.returns-then-cap-used
returns-then-cap-used c =
    encloses refl (same_refl _ _) _ c.in-Term.is refl (λ few. absurd (omega (arith, c.if-cap-used.true)))

pub returns-then-height-gt-MOST_HEIGHT : goal.returns-then-height-gt-MOST_HEIGHT
returns-then-height-gt-MOST_HEIGHT c =
    encloses refl (same_refl _ _) _ c.in-Term.is refl (λ few low. absurd (omega (arith, c.if-height-gt-MOST_HEIGHT.true)))

pub make_abstraction-requires : goal.make_abstraction-requires
make_abstraction-requires c =
    can_enclose c.requires.0 c.if-cap-used.false _ c.in-Term.is c.requires.1 c.if-height-gt-MOST_HEIGHT.false

pub returns-in-Nothing : goal.returns-in-Nothing
returns-in-Nothing c = elim c.in-Nothing.is [ inl e ↦ no_body e | inr e ↦ empty-body e ]

pub returns-else-height-gt-MOST_HEIGHT : goal.returns-else-height-gt-MOST_HEIGHT
returns-else-height-gt-MOST_HEIGHT c =
    encloses c.make_abstraction.ensures.0 c.make_abstraction.ensures.1 _
    c.in-Term.is refl (λ few low. c.make_abstraction.ensures.2)
