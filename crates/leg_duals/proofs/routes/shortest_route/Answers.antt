use Rattle.leg_duals.proofs.LeastRoutes.{best_is_shortest}
use Rattle.leg_duals.proofs.routes.shortest_route.Goals as goal

pub returns : goal.returns
returns c =
    best_is_shortest c.args.instance.now c.args.hubs.now c.args.i c.args.j c.loop-first.best c.loop-first.first-index 0 c.requires.some
    c.loop-first-test.false c.loop-first.invariant
