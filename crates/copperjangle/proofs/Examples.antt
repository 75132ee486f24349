-- Calls by number, computed: the first number that names nothing, and a refusal with all that it tells.
use Prim.Native.Nat.{ℕ}
use mathlib.Core.Path.{◌≡◌, refl}
use mathlib.Core.List.{List}
use lib.ListN.{replicate}
use Rattle.calculus.specs.Examples.{text}
use Rattle.copperjangle.specs.Exports.{parse_numbered, print_numbered, reduce_numbered}
use Rattle.copperjangle.specs.declared.Answer.{Answer}

-- refusal 1 and nothing else
abbrev unnamed : Answer
unnamed = record { refusal = 1; finished = 0; value = 0; steps = 0; place = 0; code = 0 }

order_7 : (limit cap : ℕ) (s out room : List ℕ) → reduce_numbered 7 limit cap s out room ≡ (unnamed, out, room)
unfolding reduce_numbered
order_7 limit cap s out room = refl

notation_2_parsed : (cap : ℕ) (t out room : List ℕ) → parse_numbered 2 cap t out room ≡ (unnamed, out, room)
unfolding parse_numbered
notation_2_parsed cap t out room = refl

notation_2_printed : (s out : List ℕ) → print_numbered 2 s out ≡ (unnamed, out)
unfolding print_numbered
notation_2_printed s out = refl

-- P4, by number: the place is counted in characters, and the room is cleared
abbrev open-bracket : Answer
open-bracket = record { refusal = 5; finished = 0; value = 0; steps = 0; place = 2; code = 91 }

bracket-refused : parse_numbered 0 1 (text "λλ[") (replicate 9 7) (replicate 8 7)
    ≡ (open-bracket, replicate 9 7, replicate 8 0)
unfolding parse_numbered text
bracket-refused = refl
