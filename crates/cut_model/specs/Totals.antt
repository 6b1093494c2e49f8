-- How great the sums of a cut may be.
use Rattle.std.specs.Prelude.{ℕ, ◌*◌, ◌^◌}
use Rattle.hub_spec.specs.Limits.{most_nodes}

-- of the duals of a cut
abbrev pub most_duals : ℕ
most_duals = most_nodes * most_nodes

-- of what the prices of a cut's duals, or their values of a node, are together
abbrev pub most_sum : ℕ
most_sum = most_duals * 10 ^ 33
