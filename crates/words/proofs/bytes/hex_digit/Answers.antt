-- `words::bytes::hex_digit` meets its contract on each part of the number line.
use native.Mathlib.Omega.{arith}
use borrow.Author.Tests.{le-leb, lt-leb}
use Rattle.words.specs.Digits.{hex_digit}
use Rattle.words.proofs.bytes.hex_digit.Goals as goal

pub returns-in-48-to-57 : goal.returns-in-48-to-57
unfolding hex_digit
returns-in-48-to-57 c = let b = c.args.b in rw (c.from.ensures, le-leb 48 b (omega arith), le-leb b 57 (omega arith))

pub returns-in-65-to-70 : goal.returns-in-65-to-70
unfolding hex_digit
returns-in-65-to-70 c =
    let b = c.args.b in
    rw (
      c.from-in-65-to-70.ensures,
      lt-leb b 57 (omega arith),
      le-leb 48 b (omega arith),
      le-leb 65 b (omega arith),
      le-leb b 70 (omega arith),
    )

pub returns-in-97-to-102 : goal.returns-in-97-to-102
unfolding hex_digit
returns-in-97-to-102 c =
    let b = c.args.b in
    rw (
      c.from-in-97-to-102.ensures,
      lt-leb b 57 (omega arith),
      le-leb 48 b (omega arith),
      le-leb 65 b (omega arith),
      lt-leb b 70 (omega arith),
      le-leb 97 b (omega arith),
      le-leb b 102 (omega arith),
    )

pub returns-in_default : goal.returns-in_default
unfolding hex_digit
returns-in_default c =
    let b = c.args.b in
    rw (lt-leb 48 b (omega arith), lt-leb 65 b (omega arith), lt-leb 97 b (omega arith))

pub returns-in_default-2 : goal.returns-in_default-2
unfolding hex_digit
returns-in_default-2 c =
    let b = c.args.b in
    rw (lt-leb b 57 (omega arith), le-leb 48 b (omega arith), lt-leb 65 b (omega arith), lt-leb 97 b (omega arith))

pub returns-in_default-3 : goal.returns-in_default-3
unfolding hex_digit
returns-in_default-3 c =
    let b = c.args.b in
    rw (lt-leb b 57 (omega arith), le-leb 48 b (omega arith), le-leb 65 b (omega arith), lt-leb b 70 (omega arith), lt-leb 97 b (omega arith))

pub returns-in_default-4 : goal.returns-in_default-4
unfolding hex_digit
returns-in_default-4 c =
    let b = c.args.b in
    rw (lt-leb b 57 (omega arith), le-leb 48 b (omega arith), le-leb 65 b (omega arith), lt-leb b 70 (omega arith), le-leb 97 b (omega arith), lt-leb b 102 (omega arith))
