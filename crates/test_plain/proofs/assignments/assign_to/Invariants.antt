use Rattle.std.proofs.Common.{◌+◌, ◌*◌}
use Rattle.hub_model.proofs.Assigned.{IsAssigned}
use Rattle.test_plain.proofs.assignments.assign_to.Given as goal

abbrev pub invariant-loop-j : goal.invariant-loop-j
invariant-loop-j l = IsAssigned l.instance l.hubs (l.i * l.instance.size + l.j) l.routes.items l.cost

abbrev pub invariant-loop-i : goal.invariant-loop-i
invariant-loop-i l = IsAssigned l.instance l.hubs (l.i * l.instance.size) l.routes.items l.cost
