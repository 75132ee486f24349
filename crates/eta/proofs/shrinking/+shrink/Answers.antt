-- `eta::shrinking::shrink` meets its contract: each kind of node is a law of `Rounds`. Parts have smaller numbers.
use mathlib.Core.Path.{sym, ◌∙◌}
use native.Mathlib.Omega.{arith}
use Rattle.calculus.specs.Eta.{may_follow}
use Rattle.eta.proofs.Rounds.{Waits, no_more, waits-none, at_variable, left_asks, right_asks, join_asks, at_application}
use Rattle.eta.proofs.Rounds.{contracted_asks, body_asks, place_asks, at_place, bind_asks, at_abstraction}
use Rattle.eta.proofs.shrinking.+shrink.Goals as goal
use Rattle.eta.proofs.shrinking.+shrink.Goals.{in_default-via-in-Some+else-may_follow, in_default-via-in_default}

pub returns-in-Bound : goal.returns-in-Bound
returns-in-Bound t c = at_variable c.requires (rw c.named_at.ensures.read at c.in-Bound.is)

pub shrink-first-requires : goal.shrink-first-requires
shrink-first-requires t c =
    let (lower, asks) = left_asks c.requires (sym c.in-Application.ensures.read) in (omega arith, asks)

pub shrink-second-requires : goal.shrink-second-requires
shrink-second-requires t c =
    let is = sym c.in-Application.ensures.read in
    let (lower, asks) = right_asks c.requires is c.shrink-first.ensures in
    (omega arith, asks)

pub join-requires : goal.join-requires
join-requires t c =
    join_asks c.requires (sym c.in-Application.ensures.read) c.shrink-first.ensures
    c.shrink-second.ensures

pub returns-in-Application : goal.returns-in-Application
returns-in-Application t c =
    at_application c.requires (sym c.in-Application.ensures.read) c.shrink-first.ensures
    c.shrink-second.ensures (c.join.ensures c.shrink-first.new.work)

pub contracted-requires : goal.contracted-requires
contracted-requires t c = contracted_asks c.requires (sym c.in-Abstraction.ensures.read)

pub shrink-requires : goal.shrink-requires
shrink-requires t c =
    let is = sym c.in-Abstraction.ensures.read in
    let (lower, asks) = place_asks c.requires is c.contracted.ensures c.in-Some.is in
    (omega arith, asks)

pub returns-in-Some : goal.returns-in-Some
returns-in-Some t c =
    at_place c.requires (sym c.in-Abstraction.ensures.read) c.contracted.ensures c.in-Some.is
    (sym c.may_follow.ensures ∙ c.if-may_follow.true) c.shrink.ensures

pub shrink-done-requires : goal.shrink-done-requires
shrink-done-requires t c =
    let (lower, asks) = body_asks c.requires (sym c.in-Abstraction.ensures.read) in
    (omega arith, asks)

pub bind-requires : goal.bind-requires
bind-requires t c =
    bind_asks c.requires (sym c.in-Abstraction.ensures.read) c.shrink-done.ensures c.in-Abstraction.ensures.again

pub returns-in_default : goal.returns-in_default
returns-in_default t c =
    let waits : Waits c.contracted.result (may_follow c.args.limit c.args.work.now.steps) =
    elim c.in_default.branch [
      | in_default-via-in-Some+else-may_follow w ↦ no_more (sym w.may_follow.ensures ∙ w.if-may_follow.false)
      | in_default-via-in_default w ↦ waits-none w.in_default.not-Some
    ] in
    at_abstraction c.requires (sym c.in-Abstraction.ensures.read) c.contracted.ensures waits c.shrink-done.ensures
    c.bind.ensures
