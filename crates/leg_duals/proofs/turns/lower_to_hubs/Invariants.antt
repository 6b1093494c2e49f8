use Rattle.std.proofs.Common.{◌+◌, ◌≤◌, length, slice_index, All}
use Rattle.leg_duals.specs.Ways.{IsWay, no_way}
use Rattle.leg_duals.specs.Lowered.{AreLowered, IsSpared}
use Rattle.leg_duals.proofs.turns.lower_to_hubs.Given as goal

abbrev pub invariant-loop-y : goal.invariant-loop-y
invariant-loop-y l = record {
  lowered : AreLowered l.ways.size l.y (λ y. IsSpared l.ways l.reaches l.t (length l.ways.order + y))
      (λ y. IsWay l.ways l.t (length l.ways.order + y)) (slice_index l.fn.least) (slice_index l.least);
  limit : All (λ d. d ≤ no_way) l.least;
}
