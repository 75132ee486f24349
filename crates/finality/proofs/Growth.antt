-- HOW A STEP CHANGES THE NODES of a whole term: by k(a-1) - a - 2, where the argument has a nodes and occurs k times.
use Prim.Native.Nat.{◌+◌, ◌*◌}
use mathlib.Core.Path.{◌≡◌}
use native.Mathlib.Omega.{arith}
use mathlib.Core.Option.{some}
use Rattle.calculus.specs.Term.{Term, nodes}
use Rattle.calculus.specs.Substitution.{occurs}
use Rattle.calculus.specs.Orders.{Order, step}
use Rattle.calculus.proofs.Growth.{nodes-contract}
use Rattle.finality.specs.Beta.{Beta, beta, in_lam, in_left, in_right, Contracts, right_here, below, on_the_left}
use Rattle.finality.specs.Beta.{on_the_right}
use Rattle.finality.proofs.Sound.{step-is-beta}

-- a contraction is one of some redex
pub contracted : {t u : Term} → Beta t u → (b : Term) × (a : Term) × Contracts b a t u
contracted (beta {b} {a}) = (b, a, right_here)
contracted (in_lam s) = let (b, a, c) = contracted s in (b, a, below c)
contracted (in_left s) = let (b, a, c) = contracted s in (b, a, on_the_left c)
contracted (in_right s) = let (b, a, c) = contracted s in (b, a, on_the_right c)

-- wherever it lies, with what is taken away written on the left: k + a + 2 go and k a come
pub growth : {b a t u : Term} → Contracts b a t u
    → nodes u + (occurs 0 b + nodes a + 2) ≡ nodes t + occurs 0 b * nodes a
unfolding nodes
growth {b} {a} right_here = nodes-contract b a
growth (below c) = omega (arith, growth c)
growth (on_the_left c) = omega (arith, growth c)
growth (on_the_right c) = omega (arith, growth c)

-- and so for each step of each order
pub step_growth : (o : Order) {t u : Term} → step o t ≡ some u
    → (b : Term) × (a : Term) × Contracts b a t u
    × (nodes u + (occurs 0 b + nodes a + 2) ≡ nodes t + occurs 0 b * nodes a)
step_growth o e = let (b, a, c) = contracted (step-is-beta o e) in (b, a, c, growth c)
