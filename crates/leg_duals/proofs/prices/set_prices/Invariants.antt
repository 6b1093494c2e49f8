use Rattle.std.proofs.Common.{◌+◌, ◌≤◌, length, slice_index, All}
use Rattle.leg_duals.specs.Ways.{IsWay, no_way}
use Rattle.leg_duals.specs.Lowered.{AnyOf, IsLowered}
use Rattle.leg_duals.proofs.prices.set_prices.Given as goal

abbrev pub invariant-loop-y : goal.invariant-loop-y
invariant-loop-y l = record {
  lowered : IsLowered l.ways.size
      (AnyOf l.y (λ y. AnyOf (length l.ways.hubs) (λ x. IsWay l.ways (length l.ways.order + x) (length l.ways.order + y))))
      (λ _. no_way) (slice_index l.prices);
  limit : All (λ d. d ≤ no_way) l.prices;
}
