use Rattle.std.proofs.Common.{arith}
use Rattle.hub_spec.proofs.BestRoutes.{least_cost_of_route}
use Rattle.hub_spec.proofs.Limits.{hubs_are_nodes}
use Rattle.hub_model.proofs.AllowedRoutes.{set_has_route, some_cheapest, least_route_limit}
use Rattle.hub_model.proofs.routes.least_route.Goals as goal

pub cheapest_route-requires-clause-hubs : goal.cheapest_route-requires-clause-hubs
cheapest_route-requires-clause-hubs c = hubs_are_nodes c.args.instance.now c.args.hubs.now c.size.ensures.problem.limits c.requires.hubs

pub unwrap-requires : goal.unwrap-requires
unwrap-requires c =
    some_cheapest c.args.instance.now c.args.hubs.now (c.args.i, c.args.j) c.cheapest_route.result
    (set_has_route c.args.instance.now c.args.hubs.now c.args.i c.args.j c.requires.hubs c.requires.from c.requires.to) c.cheapest_route.ensures

pub returns-clause-price : goal.returns-clause-price
returns-clause-price c =
    let cheapest = rw c.unwrap.ensures at c.cheapest_route.ensures in
    least_cost_of_route c.args.instance.now c.args.hubs.now (c.args.i, c.args.j) (c.unwrap.result.first, c.unwrap.result.last) c.unwrap.result.cost
    cheapest.0 cheapest.1

pub returns-clause-limit : goal.returns-clause-limit
returns-clause-limit c =
    let cheapest = rw c.unwrap.ensures at c.cheapest_route.ensures in
    omega (
      arith,
      cheapest.1,
      least_route_limit c.args.instance.now c.args.hubs.now c.args.i c.args.j (c.unwrap.result.first, c.unwrap.result.last)
          c.size.ensures.problem c.requires.hubs c.requires.from c.requires.to cheapest.0,
    )
