use Rattle.std.proofs.Common.{◌≡◌, ℕ, ◌+◌, length, slice_index, subst, arith}
use Rattle.leg_duals.specs.Ways.{IsWay}
use Rattle.leg_duals.specs.Lowered.{AreLowered, IsSpared}
use Rattle.leg_duals.proofs.LoweredSets.{lowered_more}
use Rattle.leg_duals.proofs.turns.lower_to_hubs.Goals as goal

pub loop-y-preserved : goal.loop-y-preserved
loop-y-preserved c =
    let w = c.args.ways.now in
    record {
      lowered = lowered_more w.size c.loop-y.y (λ y. IsSpared w c.args.reaches.now c.args.t (length w.order + y)) (λ y. IsWay w c.args.t (length w.order + y))
          (slice_index c.args.least.now) c.loop-y.least c.lower.new.items c.loop-y.invariant.lowered
          (rw c.count.ensures.value at c.lower.ensures.lowered);
      limit = c.lower.ensures.limit;
    }

pub returns-clause-lowered : goal.returns-clause-lowered
returns-clause-lowered c =
    let w = c.args.ways.now in
    let all : c.loop-y.y ≡ length w.hubs = omega arith in
    subst (λ (n : ℕ). AreLowered w.size n (λ y. IsSpared w c.args.reaches.now c.args.t (length w.order + y)) (λ y. IsWay w c.args.t (length w.order + y))
    (slice_index c.args.least.now) (slice_index c.loop-y.least)) all c.loop-y.invariant.lowered
