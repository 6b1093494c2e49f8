use Rattle.std.proofs.Common.{◌≡◌, map}
use Rattle.hub_make.specs.Numbers.{nodes, made_cost}
use Rattle.hub_make.proofs.rows.fixed_costs.Given as goal

abbrev pub invariant-loop-i : goal.invariant-loop-i
invariant-loop-i l = l.row.items ≡ map (made_cost l.seed l.size) (nodes l.i)
