use Rattle.std.proofs.Common.{ℕ, ◌*◌, ap, ◌∙◌}
use Rattle.hub_spec.specs.Problem.{flow}
use Rattle.hub_spec.proofs.Limits.{hubs_are_nodes}
use Rattle.hub_model.proofs.AllowedRoutes.{set_has_route}
use Rattle.leg_duals.proofs.LeastRoutes.{some_shortest, unit_costs}
use Rattle.leg_duals.proofs.routes.least_route.Goals as goal

pub shortest_route-requires-clause-hubs : goal.shortest_route-requires-clause-hubs
shortest_route-requires-clause-hubs c = hubs_are_nodes c.args.instance.now c.args.hubs.now c.requires.problem.limits c.requires.set

pub unwrap-requires : goal.unwrap-requires
unwrap-requires c =
    some_shortest c.args.instance.now c.args.hubs.now (c.args.i, c.args.j) c.shortest_route.result
    (set_has_route c.args.instance.now c.args.hubs.now c.args.i c.args.j c.requires.set c.requires.from c.requires.to) c.shortest_route.ensures

pub returns-clause-cost : goal.returns-clause-cost
returns-clause-cost c =
    let p = c.args.instance.now in
    let shortest = rw c.unwrap.ensures at c.shortest_route.ensures in
    ap (λ (x : ℕ). flow p c.args.i c.args.j * x) shortest.1 ∙ unit_costs p c.args.i c.args.j c.unwrap.result.first c.unwrap.result.last
