-- P1 TO P16 HOLD: each call of the list answers and leaves just what the list says.
use mathlib.Core.Path.{◌≡◌, refl}
use mathlib.Core.List.{map}
use Rattle.calculus.specs.Examples.{sixteen, call_of, wanted_of, outcome, wanted}

examples_hold : map call_of sixteen ≡ map wanted_of sixteen
unfolding sixteen outcome wanted
examples_hold = refl
