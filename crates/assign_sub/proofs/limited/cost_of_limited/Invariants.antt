use Rattle.std.proofs.Common.{◌+◌, ◌*◌}
use Rattle.hub_model.proofs.Assigned.{IsRouted}
use Rattle.assign_sub.proofs.limited.cost_of_limited.Given as goal

abbrev pub invariant-loop-i : goal.invariant-loop-i
invariant-loop-i l = IsRouted l.instance l.hubs (l.i * l.instance.size) l.total

abbrev pub invariant-loop-j : goal.invariant-loop-j
invariant-loop-j l = IsRouted l.instance l.hubs (l.i * l.instance.size + l.j) l.total
