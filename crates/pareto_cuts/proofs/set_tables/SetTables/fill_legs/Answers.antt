use Rattle.std.proofs.Common.{ap, arith}
use Rattle.hub_spec.proofs.Limits.{hubs_are_nodes}
use Rattle.hub_model.proofs.Turns.{order_nodes}
use Rattle.unit_duals.specs.Lengths.{UnitLegs, RoomedLegs}
use Rattle.pareto_cuts.proofs.StopCounts.{stops_within}
use Rattle.pareto_cuts.proofs.set_tables.SetTables.fill_legs.Goals as goal

pub fill-requires-clause-hubs : goal.fill-requires-clause-hubs
fill-requires-clause-hubs c = hubs_are_nodes c.args.instance.now c.args.hubs.now c.requires.problem.limits c.requires.set

pub fill-requires-clause-order : goal.fill-requires-clause-order
fill-requires-clause-order c = order_nodes c.args.instance.now c.args.hubs.now c.args.order.now c.requires.problem c.requires.order

pub fill-requires-clause-room_stops : goal.fill-requires-clause-room_stops
fill-requires-clause-room_stops c =
    omega (
      arith,
      stops_within c.args.instance.now c.args.hubs.now c.args.order.now c.requires.problem c.requires.set c.requires.order,
      c.requires.room,
      ap (λ (t : RoomedLegs). t.room) c.self.view_is,
      c.self.invariant,
    )

pub fill-requires-then-self-clause-stops : goal.fill-requires-then-self-clause-stops
fill-requires-then-self-clause-stops c =
    omega (
      arith,
      stops_within c.args.instance.now c.args.hubs.now c.args.order.now c.requires.problem c.requires.set c.requires.order,
      ap (λ (l : UnitLegs). l.count) c.legs.ensures,
      ap (λ (l : UnitLegs). l.hubs) c.legs.ensures,
      c.fill.ensures.legs.places,
      c.fill.ensures.legs.hubs_too,
      c.requires.room,
      ap (λ (t : RoomedLegs). t.room) c.self.view_is,
    )
