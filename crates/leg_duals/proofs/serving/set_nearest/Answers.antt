use Rattle.std.proofs.Common.{arith}
use Rattle.leg_duals.proofs.NearestHubs.{member_is_node, nearest_set}
use Rattle.leg_duals.proofs.serving.set_nearest.Goals as goal

pub nearest_by-requires-clause-last : goal.nearest_by-requires-clause-last
nearest_by-requires-clause-last c = member_is_node c.args.instance.now c.args.hubs.now c.loop-y.y c.requires.problem c.requires.set c.loop-y-test.true

pub loop-y-preserved : goal.loop-y-preserved
loop-y-preserved c =
    nearest_set c.args.instance.now c.args.hubs.now c.args.i c.loop-y.y c.nearest_by.result c.loop-y.nearest (omega arith) c.nearest_by.ensures
    c.loop-y.invariant
