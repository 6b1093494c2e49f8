use Rattle.std.proofs.Common.{◌+◌, ◌≤◌, length, slice_index, All}
use Rattle.leg_duals.specs.Ways.{IsWay, no_way}
use Rattle.leg_duals.specs.Lowered.{AreLowered, IsSpared}
use Rattle.leg_duals.proofs.prices.lower_to_hub.Given as goal

abbrev pub invariant-loop-x : goal.invariant-loop-x
invariant-loop-x l = record {
  lowered : AreLowered l.ways.size l.x (λ x. IsSpared l.ways l.reaches (length l.ways.order + x) l.m)
      (λ x. IsWay l.ways (length l.ways.order + x) l.m) (slice_index l.fn.prices) (slice_index l.prices);
  limit : All (λ d. d ≤ no_way) l.prices;
}
