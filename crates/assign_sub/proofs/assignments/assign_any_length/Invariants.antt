use Rattle.std.proofs.Common.{◌≡◌, ◌+◌, ◌*◌}
use Rattle.hub_model.proofs.Assigned.{IsAssigned}
use Rattle.assign_sub.proofs.assignments.assign_any_length.Given as goal

abbrev pub invariant-loop-i : goal.invariant-loop-i
invariant-loop-i l = record {
  room : l.first.room ≡ l.instance.size;
  assigned : IsAssigned l.instance l.hubs (l.i * l.instance.size) l.routes.items l.cost;
}

abbrev pub invariant-loop-j : goal.invariant-loop-j
invariant-loop-j l = IsAssigned l.instance l.hubs (l.i * l.instance.size + l.j) l.routes.items l.cost
