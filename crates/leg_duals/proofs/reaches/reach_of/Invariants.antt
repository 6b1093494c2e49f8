use Rattle.std.proofs.Common.{◌≡◌, ◌<◌, ◌⊎◌}
use Rattle.leg_duals.specs.Ways.{IsHub, stop_count, base}
use Rattle.leg_duals.proofs.reaches.reach_of.Given as goal

abbrev pub invariant-loop-x : goal.invariant-loop-x
invariant-loop-x l = record {
  hub_or_itself : IsHub l.ways l.by ⊎ (l.by ≡ l.m);
  stop : l.by < stop_count l.ways;
  length : l.base ≡ base l.ways l.by l.m;
}
