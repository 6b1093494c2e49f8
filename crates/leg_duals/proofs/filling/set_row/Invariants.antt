use Rattle.std.proofs.Common.{◌+◌, ◌*◌, length}
use Rattle.hub_spec.specs.Problem.{distance}
use Rattle.unit_duals.specs.Raised.{IsRowSet}
use Rattle.leg_duals.specs.StopLegs.{stop_node}
use Rattle.leg_duals.proofs.filling.set_row.Given as goal

abbrev pub invariant-places : goal.invariant-places
invariant-places l =
    IsRowSet (length l.stops.order.now + length l.stops.hubs.now) l.t l.m (λ m. l.factor * distance l.instance l.from (stop_node l.stops.hubs.now l.stops.order.now m)) l.fn.table l.table

abbrev pub invariant-hubs : goal.invariant-hubs
invariant-hubs l =
    IsRowSet (length l.stops.order.now + length l.stops.hubs.now) l.t (length l.stops.order.now + l.x)
    (λ m. l.factor * distance l.instance l.from (stop_node l.stops.hubs.now l.stops.order.now m)) l.fn.table l.table
