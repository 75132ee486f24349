-- The entry points that take a notation or an order by number: a number that names none is 1, and nothing changes.
use Rattle.std.specs.Prelude.{ℕ, List}
use Rattle.std.proofs.Math.Option.{Option, none, some}
use Rattle.calculus.specs.Refusal.{outside_bounds}
use Rattle.calculus.specs.Outcomes.{Outcome, parse_of, print_of, reduce_of}
use Rattle.copperjangle.specs.declared.Answer.{Answer}
use Rattle.copperjangle.specs.Numbers.{numbered, notations, orders}
use Rattle.copperjangle.specs.Answers.{refused_in_numbers, number_in_numbers, run_in_numbers, told_by}

abbrev pub if_named : {A B : Type 0} → B → Option A → (A → B) → B
if_named otherwise none work = otherwise
if_named otherwise (some a) work = work a

abbrev unnamed : Answer
unnamed = refused_in_numbers 0 outside_bounds

unfoldable pub parse_numbered : (notation cap : ℕ) (text out room : List ℕ) → Outcome Answer
unfolding number_in_numbers parse_of
parse_numbered notation cap text out room =
    if_named (unnamed, out, room) (numbered notations notation)
    (λ n. told_by number_in_numbers (parse_of n cap text out room))

unfoldable pub print_numbered : (notation : ℕ) (s out : List ℕ) → Answer × List ℕ
unfolding number_in_numbers print_of
print_numbered notation s out =
    if_named (unnamed, out) (numbered notations notation)
    (λ n. (number_in_numbers (print_of n s out).0, (print_of n s out).1))

unfoldable pub reduce_numbered : (order limit cap : ℕ) (s out room : List ℕ) → Outcome Answer
unfolding run_in_numbers reduce_of
reduce_numbered order limit cap s out room =
    if_named (unnamed, out, room) (numbered orders order)
    (λ o. told_by run_in_numbers (reduce_of o limit cap s out room))
