-- `eta::shrinking::bind` meets its contract.
use mathlib.Core.Path.{sym, ◌∙◌}
use Rattle.eta.proofs.Remaking.{bind_stays, bind-ends, bind_goes}
use Rattle.eta.proofs.shrinking.bind.Goals as goal

pub returns-in-None : goal.returns-in-None
returns-in-None c = bind_stays c.requires c.contracted.ensures c.in-None.is c.rebind.ensures

pub returns-in-Some : goal.returns-in-Some
returns-in-Some c =
    bind_goes c.requires c.contracted.ensures c.in-Some.is (sym c.may_follow.ensures ∙ c.if-may_follow.true)

pub returns-in-Some-2 : goal.returns-in-Some-2
returns-in-Some-2 c =
    let last = sym c.may_follow.ensures ∙ c.if-may_follow.false in
    bind-ends c.requires c.contracted.ensures c.in-Some.is last c.rebind-in-Some-2.ensures
