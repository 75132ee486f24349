-- The bounds, by name.
use Rattle.std.specs.Prelude.{ℕ, ◌-◌, ◌^◌}

-- a cap is 1 to this many nodes; queries and printing hold a term to it
abbrev pub most_nodes : ℕ
most_nodes = 65536

-- of a term
abbrev pub most_height : ℕ
most_height = 512

-- parentheses and binders open at once in a text
abbrev pub most_open : ℕ
most_open = 512

-- bytes of a text
abbrev pub most_text : ℕ
most_text = 2097152

-- a reduction limit is 1 to this many steps
abbrev pub most_steps : ℕ
most_steps = 1000000

abbrev pub greatest_number : ℕ
greatest_number = 2 ^ 64 - 1

-- bytes of coded output, and numbers of work room, for each node of the cap
abbrev pub output_per_node : ℕ
output_per_node = 9

abbrev pub room_per_node : ℕ
room_per_node = 8

-- the program: bytes that it reads, and its cap
abbrev pub most_input : ℕ
most_input = 65536

abbrev pub program_cap : ℕ
program_cap = 1024
