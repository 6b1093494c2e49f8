use Rattle.std.proofs.Common.{ℕ, List, ap, length, arith}
use Rattle.leg_duals.specs.Ways.{stop_count}
use Rattle.pareto_cuts.proofs.StopCounts.{stops_within}
use Rattle.pareto_cuts.proofs.origins.work_out_limited.Goals as goal

pub work_out-requires-clause-stops : goal.work_out-requires-clause-stops
work_out-requires-clause-stops c =
    let s = c.args.separation.now in
    let is = c.order.ensures.separation in
    omega (
      arith,
      stops_within s.problem s.hubs s.order is.problem is.set is.order,
      ap stop_count c.new-ways.ensures,
      ap (λ (ks : List ℕ). length ks) c.hubs.ensures.value,
      ap (λ (ks : List ℕ). length ks) c.order.ensures.value,
      c.requires.room,
    )
