-- What a node's two numbers say that it is: its kind, then the index or the numbers of its parts.
use Rattle.std.specs.Prelude.{ℕ, ◌/◌, ◌%◌, cond, eqb}
use Rattle.nodes.specs.Packing.{kind_in}
use Rattle.nodes.specs.declared.Node.{Node}
use Rattle.nodes.specs.declared.Node.TheVariants.{Variable, Abstraction, Application}

unfoldable pub node_in : (w x : ℕ) → Node
node_in w x =
    cond (eqb (kind_in w) 1) (Variable x) (
    cond (eqb (kind_in w) 2) (Abstraction x)
    (Application (x % 4294967296) (x / 4294967296)))
