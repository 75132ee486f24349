-- `eta::shrinking::join` meets its contract.
use mathlib.Core.Path.{◌≡◌}
use mathlib.Core.Bool.{◌||◌}
use Rattle.eta.proofs.Remaking.{join-done}
use Rattle.eta.proofs.shrinking.join.Goals as goal
use Rattle.eta.proofs.shrinking.join.Goals.{Joined-first, then-first, else-first}

told : (c : Joined-first) → c.if-first.left ≡ (c.args.first.left || c.args.second.left)
told c =
    elim c.if-first.branch [
      | then-first w ↦ simp (w.if-first.true, w.left-is)
      | else-first w ↦ simp (w.if-first.false, w.left-is)
    ]

pub returns : goal.returns
returns c = λ w. join-done c.requires (told (goal.at.returns c).Joined-first) c.kept_or_put.ensures
