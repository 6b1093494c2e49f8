use Rattle.std.proofs.Common.{◌+◌, length, slice_index, arith}
use Rattle.leg_duals.specs.Ways.{IsWay, no_way}
use Rattle.leg_duals.specs.Lowered.{AnyOf}
use Rattle.leg_duals.proofs.LoweredSets.{any_more}
use Rattle.leg_duals.proofs.HubWays.{hub_ways}
use Rattle.leg_duals.proofs.prices.set_prices.Goals as goal

pub loop-y-preserved : goal.loop-y-preserved
loop-y-preserved c =
    let w = c.args.ways.now in
    record {
      lowered = any_more w.size c.loop-y.y (λ y. AnyOf (length w.hubs) (λ x. IsWay w (length w.order + x) (length w.order + y)))
          (λ _. no_way) (slice_index c.loop-y.prices) (slice_index c.lower_to_hub.new.prices) c.loop-y.invariant.lowered
          (rw c.count.ensures.value at c.lower_to_hub.ensures.lowered);
      limit = c.lower_to_hub.ensures.limit;
    }

pub returns-clause-prices : goal.returns-clause-prices
returns-clause-prices c =
    let w = c.args.ways.now in
    hub_ways w c.loop-y.y (slice_index c.loop-y.prices) (omega arith) c.loop-y.invariant.lowered
