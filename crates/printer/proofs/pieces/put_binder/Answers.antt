-- `printer::pieces::put_binder` meets its contract in either notation.
use mathlib.Core.List.{[], ◌∷◌, ◌++◌}
use native.Mathlib.Omega.{arith}
use Rattle.calculus.specs.Writing.{name_text}
use Rattle.calculus.proofs.Putting.{puts_then}
use Rattle.printer.proofs.Naming.{binder-de_bruijn, binder-classic, binder-length, binder-classic-length}
use Rattle.printer.proofs.pieces.put_binder.Goals as goal

pub put-half-requires : goal.put-half-requires
put-half-requires c =
    omega (arith, c.requires, binder-length c.args.style c.args.depth)

pub put-name-requires : goal.put-name-requires
put-name-requires c =
    omega (arith, c.requires, c.put-half.ensures.reached, binder-length c.args.style c.args.depth)

pub put_name-dot-requires : goal.put_name-dot-requires
put_name-dot-requires c =
    let long = binder-classic-length c.args.style c.args.depth c.in-Classic.is in
    omega (arith, c.requires, long, c.put-half.ensures.reached, c.put-name.ensures.reached)

pub put-requires : goal.put-requires
put-requires c =
    let long = binder-classic-length c.args.style c.args.depth c.in-Classic.is in
    omega (
      arith,
      c.requires,
      long,
      c.put-half.ensures.reached,
      c.put-name.ensures.reached,
      c.put_name-dot.ensures.reached,
    )

pub returns-in-DeBruijn : goal.returns-in-DeBruijn
returns-in-DeBruijn c =
    rw (binder-de_bruijn c.args.style c.args.depth c.in-DeBruijn.is)
    (puts_then (0xCE ∷ []) (0xBB ∷ []) c.put-half.ensures c.put-name.ensures)

pub returns-in-Classic : goal.returns-in-Classic
returns-in-Classic c =
    let name = name_text c.args.depth in
    let named = puts_then name (46 ∷ []) c.put_name-dot.ensures c.put.ensures in
    rw (binder-classic c.args.style c.args.depth c.in-Classic.is)
    (puts_then (0xCE ∷ []) ((0xBB ∷ []) ++ (name ++ (46 ∷ []))) c.put-half.ensures
    (puts_then (0xBB ∷ []) (name ++ (46 ∷ [])) c.put-name.ensures named))
