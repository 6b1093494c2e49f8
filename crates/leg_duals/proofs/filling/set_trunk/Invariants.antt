use Rattle.std.proofs.Common.{◌≡◌, ◌+◌, ◌*◌, ◌≤◌, length}
use Rattle.hub_spec.specs.Problem.{distance}
use Rattle.unit_duals.specs.Limits.{most_leg}
use Rattle.unit_duals.specs.Cells.{IsTable}
use Rattle.leg_duals.specs.StopLegs.{stop_node}
use Rattle.leg_duals.proofs.filling.set_trunk.Given as goal

abbrev pub invariant-loop-k : goal.invariant-loop-k
invariant-loop-k l =
    let stops = length l.order + length l.hubs in
    let node = stop_node l.hubs l.order in
    record {
      legs : IsTable stops (λ k m v. v ≡ l.instance.trunk * distance l.instance (node k) (node m)) l.trunk (l.k * stops);
      limit : IsTable stops (λ k m v. v ≤ most_leg) l.trunk (l.k * stops);
    }
