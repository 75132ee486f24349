-- THE STATEMENT OF EVERY ENTRY POINT: what it is called with, and that its outcome is the one of the definitions.
use Rattle.std.specs.Prelude.{ℕ, ◌≡◌, Bool, List}
use Rattle.calculus.specs.Refusal.{Answer}
use Rattle.calculus.specs.Orders.{Order}
use Rattle.calculus.specs.Runs.{Run}
use Rattle.calculus.specs.Reading.{Notation}
use Rattle.calculus.specs.Outcomes.{Outcome, nodes_of, height_of, max_depth_of, has_free_variables_of}
use Rattle.calculus.specs.Outcomes.{is_supercombinator_of}
use Rattle.calculus.specs.Outcomes.{max_free_index_of, equality_of, print_of, parse_of, apply_of, eta_of, reduce_of}
use Rattle.calculus.specs.Program.{program_of}

-- a call with all of its inputs: numbers, bytes, and every buffer that is lent
pub data Call : Type 0 where
  nodes height max_depth has_free_variables is_supercombinator max_free_index : (input : List ℕ) → Call
  equality : (first second : List ℕ) → Call
  print : Notation → (input out : List ℕ) → Call
  parse : Notation → (cap : ℕ) (text out room : List ℕ) → Call
  apply : (cap : ℕ) (abstraction argument out room : List ℕ) → Call
  eta : (limit cap : ℕ) (input out room : List ℕ) → Call
  reduce : Order → (limit cap : ℕ) (input out room : List ℕ) → Call
  program : (input : List ℕ) → Call

-- what such a call may leave: the answer, and every lent buffer
abbrev pub Result : Call → Type 0
Result (nodes s) = Answer ℕ
Result (height s) = Answer ℕ
Result (max_depth s) = Answer ℕ
Result (has_free_variables s) = Answer Bool
Result (is_supercombinator s) = Answer Bool
Result (max_free_index s) = Answer ℕ
Result (equality s u) = Answer Bool
Result (print n s out) = Answer ℕ × List ℕ
Result (parse n cap text out room) = Outcome (Answer ℕ)
Result (apply cap s u out room) = Outcome (Answer ℕ)
Result (eta limit cap s out room) = Outcome (Run ℕ)
Result (reduce o limit cap s out room) = Outcome (Run ℕ)
Result (program s) = List ℕ

-- what it leaves
unfoldable pub outcome : (c : Call) → Result c
outcome (nodes s) = nodes_of s
outcome (height s) = height_of s
outcome (max_depth s) = max_depth_of s
outcome (has_free_variables s) = has_free_variables_of s
outcome (is_supercombinator s) = is_supercombinator_of s
outcome (max_free_index s) = max_free_index_of s
outcome (equality s u) = equality_of s u
outcome (print n s out) = print_of n s out
outcome (parse n cap text out room) = parse_of n cap text out room
outcome (apply cap s u out room) = apply_of cap s u out room
outcome (eta limit cap s out room) = eta_of limit cap s out room
outcome (reduce o limit cap s out room) = reduce_of o limit cap s out room
outcome (program s) = program_of s

-- the statement of a call allows this result
abbrev pub Allows : (c : Call) → Result c → Type 0
Allows c r = r ≡ outcome c
