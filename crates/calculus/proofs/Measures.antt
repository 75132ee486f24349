-- Every term has a node and a height, and no more abstractions on a path than its height.
use Prim.Native.Nat.{◌≤◌, ◌<◌}
use native.Mathlib.Omega.{arith}
use Rattle.calculus.specs.Term.{Term, var, lam, app, nodes, height}
use Rattle.calculus.specs.Queries.{max_depth}

pub nodes_positive : (t : Term) → 0 < nodes t
unfolding nodes
nodes_positive (var i) = omega arith
nodes_positive (lam b) = omega arith
nodes_positive (app l r) = omega arith

pub height_positive : (t : Term) → 0 < height t
unfolding height
height_positive (var i) = omega arith
height_positive (lam b) = omega arith
height_positive (app l r) = omega arith

pub depth_low : (t : Term) → max_depth t ≤ height t
unfolding max_depth height
depth_low (var i) = omega arith
depth_low (lam b) = omega (arith, depth_low b)
depth_low (app l r) = omega (arith, depth_low l, depth_low r)
