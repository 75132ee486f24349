-- `parser::building::joined` meets its contract: a law for each pair of parts.
use mathlib.Core.Logic.{inl, inr}
use Rattle.parser.proofs.Built.{no_item, empty_item, first_item, after-empty}
use Rattle.parser.proofs.building.joined.Goals as goal

pub returns-in-Nothing : goal.returns-in-Nothing
returns-in-Nothing c = elim c.in-Nothing.is [ inl e ↦ no_item e | inr e ↦ empty_item e ]

pub returns-in-Nothing-part : goal.returns-in-Nothing-part
returns-in-Nothing-part c = first_item _ c.in-Term.is c.in-Nothing-part.is

pub returns-in-Empty : goal.returns-in-Empty
returns-in-Empty c = after-empty _ c.in-Term.is c.in-Empty.is
