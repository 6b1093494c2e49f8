use Rattle.std.proofs.Common.{◌≡◌}
use Rattle.unit_duals.specs.Leasts.{least_of}
use Rattle.assign_sub.specs.LeastLengths.{length_by}
use Rattle.assign_sub.proofs.set_costs.length_to.Given as goal

abbrev pub invariant-loop-y : goal.invariant-loop-y
invariant-loop-y l = l.least ≡ least_of (length_by l.instance l.hubs l.i l.j 0) (length_by l.instance l.hubs l.i l.j) l.y
