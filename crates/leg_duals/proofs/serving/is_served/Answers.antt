use Rattle.std.proofs.Common.{sym, arith}
use Rattle.leg_duals.proofs.NearestHubs.{member_is_node, no_flow_served, served_by, served_by_none}
use Rattle.leg_duals.proofs.serving.is_served.Goals as goal

pub returns-then-flow_between-eq0 : goal.returns-then-flow_between-eq0
returns-then-flow_between-eq0 c =
    sym (no_flow_served c.args.instance.now c.args.hubs.now c.args.i c.args.j c.requires.set (omega (arith, c.flow_between.ensures.value)))

pub distance_between-requires-clause-from : goal.distance_between-requires-clause-from
distance_between-requires-clause-from c = member_is_node c.args.instance.now c.args.hubs.now c.loop-y.y c.requires.problem c.requires.set c.loop-y-test.true

pub returns-then-nearest-y : goal.returns-then-nearest-y
returns-then-nearest-y c =
    sym (served_by c.args.instance.now c.args.hubs.now c.args.i c.args.j c.args.most c.loop-y.y c.args.nearest.now c.requires.problem c.requires.set
    c.requires.limit c.requires.from c.requires.to c.requires.nearest c.loop-y-test.true (omega (arith, c.distance_between.ensures.value)))

pub returns : goal.returns
returns c =
    sym (served_by_none c.args.instance.now c.args.hubs.now c.args.i c.args.j c.args.most c.args.nearest.now c.requires.problem c.requires.set
    c.requires.limit c.requires.from c.requires.to (omega (arith, c.flow_between.ensures.value)) c.requires.nearest
    (λ y below. c.loop-y.invariant y (omega (arith, below))))
