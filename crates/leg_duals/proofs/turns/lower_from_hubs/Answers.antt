use Rattle.std.proofs.Common.{◌≡◌, ℕ, ◌+◌, length, slice_index, subst, arith}
use Rattle.leg_duals.specs.Ways.{IsWay}
use Rattle.leg_duals.specs.Lowered.{AreLowered, IsSpared}
use Rattle.leg_duals.proofs.LoweredSets.{lowered_more}
use Rattle.leg_duals.proofs.turns.lower_from_hubs.Goals as goal

pub loop-x-preserved : goal.loop-x-preserved
loop-x-preserved c =
    let w = c.args.ways.now in
    record {
      lowered = lowered_more w.size c.loop-x.x (λ x. IsSpared w c.args.reaches.now (length w.order + x) c.args.t) (λ x. IsWay w (length w.order + x) c.args.t)
          (slice_index c.args.least.now) c.loop-x.least c.lower.new.items c.loop-x.invariant.lowered
          (rw c.count.ensures.value at c.lower.ensures.lowered);
      limit = c.lower.ensures.limit;
    }

pub returns-clause-lowered : goal.returns-clause-lowered
returns-clause-lowered c =
    let w = c.args.ways.now in
    let all : c.loop-x.x ≡ length w.hubs = omega arith in
    subst (λ (n : ℕ). AreLowered w.size n (λ x. IsSpared w c.args.reaches.now (length w.order + x) c.args.t) (λ x. IsWay w (length w.order + x) c.args.t)
    (slice_index c.args.least.now) (slice_index c.loop-x.least)) all c.loop-x.invariant.lowered
