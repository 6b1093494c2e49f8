use Rattle.std.proofs.Common.{ap, arith}
use Rattle.hub_spec.proofs.Limits.{hubs_are_nodes}
use Rattle.unit_duals.specs.Lengths.{RoomedLegs, stops}
use Rattle.assign_sub.proofs.HubNodes.{few_hubs}
use Rattle.assign_sub.proofs.assignments.hops_of.Goals as goal

pub fill-requires-clause-hubs : goal.fill-requires-clause-hubs
fill-requires-clause-hubs c = hubs_are_nodes c.args.instance.now c.args.hubs.now c.size-n.ensures.problem.limits c.requires

pub fill-requires-clause-room_stops : goal.fill-requires-clause-room_stops
fill-requires-clause-room_stops c =
    let few = few_hubs c.args.instance.now c.args.hubs.now c.size-n.ensures.problem c.requires in
    omega (arith, few, ap (λ (v : RoomedLegs). v.room) (c.in_ok-legs.ensures), c.size-n.ensures.value)

pub fill-requires-2-clause-stops : goal.fill-requires-2-clause-stops
fill-requires-2-clause-stops c =
    let few = few_hubs c.args.instance.now c.args.hubs.now c.size-n.ensures.problem c.requires in
    omega (
      arith,
      few,
      ap stops c.legs-3.ensures,
      c.fill.ensures.legs.places,
      c.fill.ensures.legs.hubs_too,
      ap (λ (v : RoomedLegs). v.room) (c.in_ok-hops.ensures),
      c.size-n.ensures.value,
    )
