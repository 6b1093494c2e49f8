-- The limits of the numbers that the words give beside the options of an instance.
use Rattle.std.specs.Prelude.{ℕ, ◌^◌}

-- of the nodes that a search is held to
abbrev pub most_search_nodes : ℕ
most_search_nodes = 2 ^ 63

-- of the workers of a search
abbrev pub most_workers : ℕ
most_workers = 64

-- of the seed of a made instance
abbrev pub most_seed : ℕ
most_seed = 10 ^ 6

-- of the gap between the bound and the cost, in thousandths of a per cent of the cost
abbrev pub most_gap : ℕ
most_gap = 100000
