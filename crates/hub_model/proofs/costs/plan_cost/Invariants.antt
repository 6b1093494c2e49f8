use Rattle.std.proofs.Common.{◌+◌, ◌*◌}
use Rattle.hub_spec.proofs.PlanCosts.{IsCosted}
use Rattle.hub_model.proofs.costs.plan_cost.Given as goal

abbrev pub invariant-loop-j : goal.invariant-loop-j
invariant-loop-j l = IsCosted l.instance l.hubs l.routes (l.i * l.instance.size + l.j) l.total

abbrev pub invariant-loop-i : goal.invariant-loop-i
invariant-loop-i l = IsCosted l.instance l.hubs l.routes (l.i * l.instance.size) l.total
