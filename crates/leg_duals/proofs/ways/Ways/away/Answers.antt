use Rattle.std.proofs.Common.{arith}
use Rattle.leg_duals.proofs.WayLegs.{held_node_below}
use Rattle.leg_duals.proofs.ways.Ways.away.Goals as goal

pub distance_between-requires-clause-to : goal.distance_between-requires-clause-to
distance_between-requires-clause-to c =
    omega (arith, c.node-first.ensures, held_node_below c.self.inside c.args.self.now c.args.k c.self.view_is c.self.invariant c.requires.first)

pub distance_between-requires-2-clause-from : goal.distance_between-requires-2-clause-from
distance_between-requires-2-clause-from c =
    omega (arith, c.node-first.ensures, held_node_below c.self.inside c.args.self.now c.args.k c.self.view_is c.self.invariant c.requires.first)

pub distance_between-requires-2-clause-to : goal.distance_between-requires-2-clause-to
distance_between-requires-2-clause-to c =
    omega (arith, c.node-last.ensures, held_node_below c.self.inside c.args.self.now c.args.m c.self.view_is c.self.invariant c.requires.last)
