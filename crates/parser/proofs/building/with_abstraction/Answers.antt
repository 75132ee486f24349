-- `parser::building::with_abstraction` meets its contract.
use Rattle.parser.proofs.Built.{with_abstraction, after-abstraction}
use Rattle.parser.proofs.building.with_abstraction.Goals as goal

pub joined-requires : goal.joined-requires
joined-requires c =
    after-abstraction c.requires.0 c.requires.2 c.requires.1 c.abstraction-item.ensures

pub returns : goal.returns
returns c =
    with_abstraction c.joined.ensures c.abstraction-item.ensures
