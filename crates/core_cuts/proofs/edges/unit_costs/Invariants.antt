use Rattle.std.proofs.Common.{◌≡◌, ◌/◌, pos, map, take}
use Rattle.core_cuts.proofs.edges.unit_costs.Given as goal

abbrev pub invariant-loop-cost : goal.invariant-loop-cost
invariant-loop-cost l = l.rights.items ≡ map (λ cost. pos (cost / l.carried)) (take l.cost-index l.costs)
