use Rattle.leg_duals.proofs.NearestHubs.{IsNearestSoFar}
use Rattle.leg_duals.proofs.serving.nearest_by.Given as goal

abbrev pub invariant-loop-k : goal.invariant-loop-k
invariant-loop-k l = IsNearestSoFar l.instance l.hubs l.i l.m l.k-index l.least
