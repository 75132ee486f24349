-- `parser::building::application` meets its contract.
use mathlib.Core.Path.{refl}
use native.Mathlib.Omega.{arith}
use Rattle.parser.proofs.Built.{applies, left-height, right-height, can-apply}
use Rattle.nodes.proofs.Keeping.{same_refl}
use Rattle.parser.proofs.building.application.Goals as goal

pub overflow_add-height : goal.overflow_add-height
overflow_add-height c =
    omega (arith, c.max-height.ensures, left-height c.requires.1, right-height c.requires.1, c.requires.0.few)

pub returns-then-cap-used : goal.returns-then-cap-used
returns-then-cap-used c =
    applies refl (same_refl _ _) _ _ (rw c.max-height.ensures) (λ few. absurd (omega (arith, c.if-cap-used.true)))

pub returns-then-height-gt-MOST_HEIGHT : goal.returns-then-height-gt-MOST_HEIGHT
returns-then-height-gt-MOST_HEIGHT c =
    applies refl (same_refl _ _) _ _ (rw c.max-height.ensures)
    (λ few low. absurd (omega (arith, c.if-height-gt-MOST_HEIGHT.true)))

pub make_application-requires : goal.make_application-requires
make_application-requires c =
    can-apply c.requires.0 c.if-cap-used.false _ _ c.requires.1
    (omega (arith, c.max-height.ensures, c.if-height-gt-MOST_HEIGHT.false))

pub returns : goal.returns
returns c =
    applies c.make_application.ensures.0 c.make_application.ensures.1 _
    _ (rw c.max-height.ensures) (λ few low. c.make_application.ensures.2)
