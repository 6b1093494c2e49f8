use Rattle.std.proofs.Common.{◌+◌, ◌*◌}
use Rattle.test_plain.proofs.PlanRoutes.{AreRoutes}
use Rattle.test_plain.proofs.plans.are_routes.Given as goal

abbrev pub invariant-loop-j : goal.invariant-loop-j
invariant-loop-j l = AreRoutes l.instance l.hubs l.routes (l.i * l.instance.size + l.j)

abbrev pub invariant-loop-i : goal.invariant-loop-i
invariant-loop-i l = AreRoutes l.instance l.hubs l.routes (l.i * l.instance.size)
