use Rattle.std.proofs.Common.{◌+◌, ◌*◌}
use Rattle.assign_sub.proofs.LeastSums.{IsSummed}
use Rattle.assign_sub.proofs.set_costs.cost_of_any_length.Given as goal

abbrev pub invariant-loop-i : goal.invariant-loop-i
invariant-loop-i l = IsSummed l.instance l.hubs (l.i * l.instance.size) l.total

abbrev pub invariant-loop-j : goal.invariant-loop-j
invariant-loop-j l = IsSummed l.instance l.hubs (l.i * l.instance.size + l.j) l.total
