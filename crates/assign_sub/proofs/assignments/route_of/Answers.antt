use Rattle.std.proofs.Common.{◌≡◌, ℕ, ◌+◌, ◌*◌, ◌≤◌, [], slice_index, sym, ap₂, subst, ◌∙◌, arith}
use Rattle.hub_spec.specs.Problem.{flow, route_cost}
use Rattle.hub_spec.specs.Plans.{IsLeastRoute}
use Rattle.unit_duals.specs.Lengths.{way}
use Rattle.leg_duals.proofs.RouteLengths.{way_costs}
use Rattle.leg_duals.proofs.StopRoutes.{first_route_least, no_flow_cost, no_flow_route}
use Rattle.assign_sub.proofs.assignments.route_of.Goals as goal

pub returns-then-flow-eq0-clause-least : goal.returns-then-flow-eq0-clause-least
returns-then-flow-eq0-clause-least c =
    rw c.route_without_flow.ensures
    (no_flow_route c.args.instance.now c.args.hubs.now c.args.i c.args.j c.requires.set (omega (arith, c.flow_between-flow.ensures.value)))

pub returns-then-flow-eq0-clause-cost : goal.returns-then-flow-eq0-clause-cost
returns-then-flow-eq0-clause-cost c =
    let h = slice_index c.args.hubs.now 0 in
    rw c.route_without_flow.ensures
    (sym (no_flow_cost c.args.instance.now c.args.i c.args.j h h (omega (arith, c.flow_between-flow.ensures.value))))

pub returns-clause-least : goal.returns-clause-least
returns-clause-least c =
    let p = c.args.instance.now in
    let hubs = c.args.hubs.now in
    let k = c.route-route.result.first in
    let m = c.route-route.result.last in
    let same : 0 + c.args.j ≡ c.args.j = omega arith in
    let some : 1 ≤ flow p c.args.i c.args.j = omega (arith, c.flow_between-flow.ensures.value) in
    subst (λ (j : ℕ). IsLeastRoute p hubs (c.args.i, j) (slice_index hubs k, slice_index hubs m)) same
    (first_route_least p hubs [] 0 c.args.i c.args.j k m c.args.hops.now.legs c.args.first.now c.requires.any c.requires.set c.requires.hops c.requires.first
    (omega (arith, c.requires.to, c.requires.size)) (subst (λ (j : ℕ). 1 ≤ flow p c.args.i j) (sym same) some) c.route-route.ensures.route)

pub returns-clause-cost : goal.returns-clause-cost
returns-clause-cost c =
    let p = c.args.instance.now in
    let hubs = c.args.hubs.now in
    let l = c.args.hops.now.legs in
    let k = c.route-route.result.first in
    let m = c.route-route.result.last in
    let same : 0 + c.args.j ≡ c.args.j = omega arith in
    let route = c.route-route.ensures.route in
    ap₂ (λ (w d : ℕ). w * d) c.flow_between-flow.ensures.value c.route-route.ensures.length
    ∙ subst (λ (j : ℕ). flow p c.args.i j * way l c.args.first.now k m c.args.j ≡ route_cost p c.args.i j (slice_index hubs k) (slice_index hubs m)) same
    (way_costs p hubs [] 0 c.args.i c.args.j k m l c.args.first.now c.requires.hops c.requires.first route.first_is_hub.1 route.last_is_hub.1
    (omega (arith, c.requires.to, c.requires.size)))
