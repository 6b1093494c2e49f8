use Rattle.std.proofs.Common.{ℕ, ◌<◌, List, length, All, ap, sym, subst, arith}
use Rattle.hub_spec.specs.Problem.{Problem}
use Rattle.hub_spec.proofs.Limits.{hubs_are_nodes}
use Rattle.hub_model.proofs.Turns.{order_nodes}
use Rattle.unit_duals.specs.Lengths.{UnitLegs}
use Rattle.unit_duals.specs.LeastValues.{OriginDuals}
use Rattle.pareto_cuts.proofs.StopCounts.{stops_within}
use Rattle.pareto_cuts.proofs.OriginDuals.{duals_from}
use Rattle.pareto_cuts.proofs.origins.OriginScratch.work_out.Goals as goal

pub fill-requires-clause-hubs : goal.fill-requires-clause-hubs
fill-requires-clause-hubs c =
    let s = c.args.separation.now in
    let is = c.hubs.ensures.separation in
    subst (λ (p : Problem). All (λ k. k < p.size) c.hubs.result.now) (sym c.instance.ensures.value)
    (subst (λ (ks : List ℕ). All (λ k. k < s.problem.size) ks) (sym c.hubs.ensures.value) (hubs_are_nodes s.problem s.hubs is.problem.limits is.set))

pub fill-requires-clause-order : goal.fill-requires-clause-order
fill-requires-clause-order c =
    let s = c.args.separation.now in
    let is = c.order.ensures.separation in
    subst (λ (p : Problem). All (λ k. k < p.size) c.order.result.now) (sym c.instance.ensures.value)
    (subst (λ (ks : List ℕ). All (λ k. k < s.problem.size) ks) (sym c.order.ensures.value) (order_nodes s.problem s.hubs s.order is.problem is.order))

pub fill-requires-clause-room_stops : goal.fill-requires-clause-room_stops
fill-requires-clause-room_stops c =
    let s = c.args.separation.now in
    let is = c.order.ensures.separation in
    omega (
      arith,
      stops_within s.problem s.hubs s.order is.problem is.set is.order,
      ap (λ (ks : List ℕ). length ks) c.hubs.ensures.value,
      ap (λ (ks : List ℕ). length ks) c.order.ensures.value,
      c.requires.room,
      ap (λ (d : OriginDuals). d.room) c.self.view_is,
      c.self.invariant,
    )

pub values_from-requires-clause-stops : goal.values_from-requires-clause-stops
values_from-requires-clause-stops c =
    let s = c.args.separation.now in
    let is = c.order.ensures.separation in
    let legs = c.in-Some.ensures.value in
    omega (
      arith,
      stops_within s.problem s.hubs s.order is.problem is.set is.order,
      ap (λ (l : UnitLegs). l.count) legs,
      ap (λ (l : UnitLegs). l.hubs) legs,
      is.legs.places,
      is.legs.hubs_too,
      c.requires.room,
      ap (λ (d : OriginDuals). d.room) c.self.view_is,
    )

pub returns-in-Some-clause-duals : goal.returns-in-Some-clause-duals
returns-in-Some-clause-duals c =
    let s = c.args.separation.now in
    let legs = c.in-Some.ensures.value in
    duals_from s c.args.i c.fill.new.self.items c.values_from.new.self.prices c.values_from.new.self.values (record {
      separation = c.order.ensures.separation;
      any_length = c.in-Some.ensures.any_length;
      from = c.requires.origin;
      legs_from = rw (c.instance.ensures.value, c.hubs.ensures.value, c.order.ensures.value) at c.fill.ensures.legs;
      are_prices = rw (legs, c.as_slice.ensures) at c.values_from.ensures.prices;
      are_values = rw (legs, c.as_slice.ensures) at c.values_from.ensures.values;
    })
