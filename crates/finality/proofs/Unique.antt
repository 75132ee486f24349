-- ANY TWO OUTCOMES THAT A STATEMENT ALLOWS ARE THE SAME, for every entry point.
use Prim.Native.Nat.{ℕ}
use mathlib.Core.Path.{◌≡◌, sym, ◌∙◌}
use mathlib.Core.List.{List}
use Rattle.calculus.specs.Orders.{Order}
use Rattle.calculus.specs.Runs.{Run}
use Rattle.calculus.specs.Outcomes.{Outcome}
use Rattle.finality.specs.Statements.{Call, Result, Allows}
use Rattle.finality.proofs.Meaning.{Reduces, means-reduce}

pub one_outcome : (c : Call) (r s : Result c) → Allows c r → Allows c s → r ≡ s
one_outcome c r s a b = a ∙ sym b

-- so too where the statement of reduce is told by steps
pub one_reduction : (limit cap : ℕ) (s out room : List ℕ) (o : Order) (r q : Outcome (Run ℕ))
    → Reduces limit cap s out room o r.0 r.1 r.2 → Reduces limit cap s out room o q.0 q.1 q.2 → r ≡ q
one_reduction limit cap s out room o r q a b =
    sym (means-reduce limit cap s out room o a) ∙ means-reduce limit cap s out room o b
