use Rattle.std.proofs.Common.{◌≡◌, ℕ, ◌+◌, length, slice_index, subst, arith}
use Rattle.leg_duals.specs.Ways.{IsWay}
use Rattle.leg_duals.specs.Lowered.{AreLowered, IsSpared}
use Rattle.leg_duals.proofs.LoweredSets.{lowered_more}
use Rattle.leg_duals.proofs.SparedWays.{lowered_to_hub}
use Rattle.leg_duals.proofs.prices.lower_to_hub.Goals as goal

pub loop-x-preserved : goal.loop-x-preserved
loop-x-preserved c =
    let w = c.args.ways.now in
    record {
      lowered = lowered_more w.size c.loop-x.x (λ x. IsSpared w c.args.reaches.now (length w.order + x) c.args.m)
          (λ x. IsWay w (length w.order + x) c.args.m) (slice_index c.args.prices.now) c.loop-x.prices c.lower.new.items
          c.loop-x.invariant.lowered (rw c.count.ensures.value at c.lower.ensures.lowered);
      limit = c.lower.ensures.limit;
    }

pub returns-clause-lowered : goal.returns-clause-lowered
returns-clause-lowered c =
    let w = c.args.ways.now in
    let all : c.loop-x.x ≡ length w.hubs = omega arith in
    lowered_to_hub w c.args.reaches.now c.args.m (slice_index c.args.prices.now) (slice_index c.loop-x.prices) c.requires.reached c.requires.last
    (subst (λ (n : ℕ). AreLowered w.size n (λ x. IsSpared w c.args.reaches.now (length w.order + x) c.args.m)
    (λ x. IsWay w (length w.order + x) c.args.m) (slice_index c.args.prices.now) (slice_index c.loop-x.prices)) all c.loop-x.invariant.lowered)
