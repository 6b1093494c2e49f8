use Rattle.leg_duals.proofs.LeastRoutes.{IsBest}
use Rattle.leg_duals.proofs.routes.shortest_route.Given as goal

abbrev pub invariant-loop-first : goal.invariant-loop-first
invariant-loop-first l = IsBest l.instance l.hubs l.i l.j l.best l.first-index 0

abbrev pub invariant-loop-last : goal.invariant-loop-last
invariant-loop-last l = IsBest l.instance l.hubs l.i l.j l.best l.first-index l.last-index
