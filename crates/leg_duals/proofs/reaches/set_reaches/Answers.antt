use Rattle.std.proofs.Common.{arith}
use Rattle.leg_duals.proofs.ReachedStops.{reached_more}
use Rattle.leg_duals.proofs.reaches.set_reaches.Goals as goal

pub loop-m-preserved : goal.loop-m-preserved
loop-m-preserved c =
    reached_more c.args.ways.now c.loop-m.by c.loop-m.bases c.loop-m.aways c.loop-m.m c.reach_of-reach.result.by c.reach_of-reach.result.base
    c.reach_of-reach.result.away (omega arith) (omega arith) (omega arith) c.reach_of-reach.ensures c.loop-m.invariant
