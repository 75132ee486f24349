-- `parser::building::with_variable` meets its contract.
use Rattle.parser.proofs.Built.{with_variable, after-variable}
use Rattle.parser.proofs.building.with_variable.Goals as goal

pub joined-requires : goal.joined-requires
joined-requires c =
    after-variable c.requires.0 c.requires.2 c.requires.1 c.variable-item.ensures

pub returns : goal.returns
returns c =
    with_variable c.joined.ensures _ c.variable-item.ensures
