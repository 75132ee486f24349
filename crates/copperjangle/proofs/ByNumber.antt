-- WHAT A CALL BY NUMBER IS, once it is known what the number names, or that it names nothing.
use Prim.Native.Nat.{ℕ, ◌≤◌}
use mathlib.Core.Path.{◌≡◌}
use mathlib.Core.List.{List}
use Rattle.calculus.specs.Refusal.{outside_bounds}
use Rattle.calculus.specs.Outcomes.{print_of, parse_of, reduce_of}
use Rattle.term.specs.Notations as notation
use Rattle.term.specs.declared.Notation.{Notation}
use Rattle.orders.specs.Orders as order
use Rattle.orders.specs.declared.Order.{Order}
use Rattle.copperjangle.specs.declared.Answer.{Answer}
use Rattle.copperjangle.specs.Numbers.{notations, orders}
use Rattle.copperjangle.specs.Answers.{refused_in_numbers, number_in_numbers, run_in_numbers, told_by}
use Rattle.copperjangle.specs.Exports.{print_numbered, parse_numbered, reduce_numbered}
use Rattle.copperjangle.proofs.Naming.{names-none, notation_numbered, order_numbered}

module _ (s out : List ℕ) where
  pub print_named : (x : Notation) → let done = print_of (notation.notation_of x) s out in
      ◌≡◌ {A = Answer × List ℕ} (print_numbered (notation.number_of x) s out) (number_in_numbers done.0, done.1)
  unfolding print_numbered
  print_named x = rw (notation_numbered x)

  pub print_unnamed : (n : ℕ) → 2 ≤ n → print_numbered n s out ≡ (refused_in_numbers 0 outside_bounds, out)
  unfolding print_numbered
  print_unnamed n h = rw (names-none notations n h)

module _ (cap : ℕ) (text out room : List ℕ) where
  pub parse_named : (x : Notation) → parse_numbered (notation.number_of x) cap text out room
      ≡ told_by number_in_numbers (parse_of (notation.notation_of x) cap text out room)
  unfolding parse_numbered
  parse_named x = rw (notation_numbered x)

  pub parse_unnamed : (n : ℕ) → 2 ≤ n
      → parse_numbered n cap text out room ≡ (refused_in_numbers 0 outside_bounds, out, room)
  unfolding parse_numbered
  parse_unnamed n h = rw (names-none notations n h)

module _ (limit cap : ℕ) (s out room : List ℕ) where
  pub reduce_named : (x : Order) → reduce_numbered (order.number_of x) limit cap s out room
      ≡ told_by run_in_numbers (reduce_of (order.order_of x) limit cap s out room)
  unfolding reduce_numbered
  reduce_named x = rw (order_numbered x)

  pub reduce_unnamed : (n : ℕ) → 7 ≤ n
      → reduce_numbered n limit cap s out room ≡ (refused_in_numbers 0 outside_bounds, out, room)
  unfolding reduce_numbered
  reduce_unnamed n h = rw (names-none orders n h)

pub ruleset printing = (print_named, print_unnamed)

pub ruleset parsing = (parse_named, parse_unnamed)

pub ruleset reducing = (reduce_named, reduce_unnamed)
