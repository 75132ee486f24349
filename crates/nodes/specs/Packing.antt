-- A node's first number: its kind, and facts of its term that are asked again and again.
use Rattle.std.specs.Prelude.{ℕ, ◌+◌, ◌*◌, ◌/◌, ◌%◌, ◌-◌, cond, eqb}

-- kind + 4 · nodes + 2^20 · height + 2^30 · free + 2^40 · normal
abbrev pub packed : (kind nodes height free normal : ℕ) → ℕ
packed k n h f s = k + 4 * n + 1048576 * h + 1073741824 * f + 1099511627776 * s

abbrev pub kind_in : ℕ → ℕ
kind_in w = w % 4

abbrev pub nodes_in : ℕ → ℕ
nodes_in w = w / 4 % 262144

abbrev pub height_in : ℕ → ℕ
height_in w = w / 1048576 % 1024

abbrev pub free_in : ℕ → ℕ
free_in w = w / 1073741824 % 1024

abbrev pub normal_in : ℕ → ℕ
normal_in w = w / 1099511627776 % 2

-- under a binder a free index is one less; 1023 says nothing
abbrev pub lowered : ℕ → ℕ
lowered f = cond (eqb f 0) 0 (cond (eqb f 1023) 1023 (f - 1))

-- an application is normal if its left part is normal and no abstraction, and its right part is normal
abbrev pub settled : ℕ → ℕ → ℕ
settled a b = cond (eqb (kind_in a) 2) 0 (cond (eqb (normal_in a) 1) (normal_in b) 0)
