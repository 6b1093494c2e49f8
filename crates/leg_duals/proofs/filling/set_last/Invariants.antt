use Rattle.std.proofs.Common.{◌≡◌, ◌+◌, ◌*◌, ◌≤◌}
use Rattle.hub_spec.specs.Problem.{distance}
use Rattle.unit_duals.specs.Limits.{most_leg}
use Rattle.unit_duals.specs.Cells.{IsTable}
use Rattle.leg_duals.specs.StopLegs.{stop_node}
use Rattle.leg_duals.proofs.filling.set_last.Given as goal

abbrev pub invariant-loop-k : goal.invariant-loop-k
invariant-loop-k l =
    let node = stop_node l.hubs l.order in
    record {
      legs : IsTable l.size (λ k j v. v ≡ l.instance.deliver * distance l.instance (node k) (l.start + j)) l.last (l.k * l.size);
      limit : IsTable l.size (λ k j v. v ≤ most_leg) l.last (l.k * l.size);
    }
