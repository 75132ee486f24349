-- `parser::building::variable` meets its contract.
use mathlib.Core.Path.{refl}
use native.Mathlib.Omega.{arith}
use Rattle.parser.proofs.Built.{makes}
use Rattle.nodes.proofs.Keeping.{same_refl}
use Rattle.parser.proofs.building.variable.Goals as goal

pub returns-then-used-cap : goal.returns-then-used-cap
returns-then-used-cap c =
    makes c.make_variable.ensures.0 c.make_variable.ensures.1 _ refl
    (λ few. c.make_variable.ensures.2)

pub returns-else-used-cap : goal.returns-else-used-cap
returns-else-used-cap c = makes refl (same_refl _ _) _ refl (λ few. absurd (omega (arith, c.if-used-cap.false)))
