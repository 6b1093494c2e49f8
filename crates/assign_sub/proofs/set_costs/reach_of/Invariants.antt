use Rattle.std.proofs.Common.{◌≡◌}
use Rattle.unit_duals.specs.Leasts.{least_of}
use Rattle.assign_sub.specs.LeastLengths.{reach_by}
use Rattle.assign_sub.proofs.set_costs.reach_of.Given as goal

abbrev pub invariant-loop-x : goal.invariant-loop-x
invariant-loop-x l = l.least ≡ least_of (reach_by l.instance l.hubs l.i l.m 0) (reach_by l.instance l.hubs l.i l.m) l.x
