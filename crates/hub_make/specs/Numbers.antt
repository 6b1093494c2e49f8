-- The numbers of a made-up instance, by its seed and its number of nodes; nodes count from 1 here.
use Rattle.std.specs.Prelude.{ℕ, ◌+◌, ◌*◌, ◌%◌, List}
use Rattle.std.specs.List.{range_with_len}

-- the nodes, from 1 on
abbrev pub nodes : ℕ → List ℕ
nodes size = range_with_len 1 size

-- the first coordinate of node i
abbrev pub made_x : ℕ → ℕ → ℕ
made_x seed i = (seed * i * i + 37 * i) % 1000

-- the second coordinate of node i
abbrev pub made_y : ℕ → ℕ → ℕ
made_y seed i = (seed * i + 61 * i * i) % 1000

-- the flow from node i to node j
abbrev pub made_flow : ℕ → ℕ → ℕ → ℕ
made_flow seed i j = 1 + (i * j + seed) % 9

-- the fixed cost of node i
abbrev pub made_cost : ℕ → ℕ → ℕ → ℕ
made_cost seed size i = 500 * size + 100 * ((seed + i) % 7)
