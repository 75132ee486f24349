-- `printer::pieces::put_figures` meets its contract.
use Prim.Native.Nat.{suc, ◌-◌, ◌*◌, ◌/◌, ◌%◌, ◌^◌}
use mathlib.Core.Path.{◌≡◌, ap}
use mathlib.Core.List.{[], ◌∷◌}
use native.Mathlib.Omega.{arith}
use Rattle.calculus.specs.Numbers.{figure}
use Rattle.printer.specs.Pieces.{figures}
use Rattle.calculus.proofs.Putting.{put_on, none_left}
use Rattle.printer.proofs.Figures.{length-figures, figures-first}
use Rattle.printer.proofs.pieces.put_figures.Goals as goal

pub put_figure-place-requires-clause-to_lt_greatest_number :
    goal.put_figure-place-requires-clause-to_lt_greatest_number
put_figure-place-requires-clause-to_lt_greatest_number c =
    let index = c.args.index in
    omega (arith, c.loop-left.invariant.reached, length-figures c.args.count index, length-figures c.loop-left.left index)

pub loop-left-preserved : goal.loop-left-preserved
loop-left-preserved c =
    let index = c.args.index in
    let left = c.loop-left.left in
    let one_more : left ≡ suc (left - 1) = omega arith in
    let first = figure (index / 2 ^ (4 * (left - 1)) % 16) ∷ [] in
    put_on first (figures (left - 1) index) c.loop-left.invariant (figures-first (left - 1) index one_more)
    c.put_figure-place.ensures

pub returns : goal.returns
unfolding figures
returns c =
    let none : c.loop-left.left ≡ 0 = omega arith in
    none_left c.loop-left.invariant (ap (λ k. figures k c.args.index) none)
