use Rattle.std.proofs.Common.{◌*◌, ◌≡◌, ℕ, refl, ap, arith}
use Rattle.std.proofs.lemmas.List.Elements.{length_all_zip}
use Rattle.hub_spec.specs.Problem.{commodities}
use Rattle.hub_spec.specs.Plans.{IsRoute}
use Rattle.hub_spec.proofs.AllLoops.{first_fails}
use Rattle.hub_spec.proofs.Commodities.{length_commodities}
use Rattle.hub_spec.proofs.Limits.{hubs_are_nodes}
use Rattle.hub_spec.proofs.PlanCosts.{route_at}
use Rattle.test_plain.proofs.PlanRoutes.{one_route_more, all_routes}
use Rattle.test_plain.proofs.plans.are_routes.Goals as goal
use Rattle.test_plain.proofs.plans.are_routes.Goals.{After-size-n}

square : (c : After-size-n) → c.size-n.result * c.size-n.result ≡ c.args.instance.now.size * c.args.instance.now.size
square c = ap (λ (n : ℕ). n * n) c.size-n.ensures.value

pub returns-then-routes-n : goal.returns-then-routes-n
returns-then-routes-n c =
    let p = c.args.instance.now in (
      λ h. cc,
      λ routes. absurd (c.if-routes-n.true (omega (
        arith,
        length_commodities p.size,
        square (goal.at.returns-then-routes-n c).After-size-n,
        length_all_zip (IsRoute p c.args.hubs.now) (commodities p.size) c.args.routes.now routes,
      ))),
    )

pub is_route-requires-clause-hubs : goal.is_route-requires-clause-hubs
is_route-requires-clause-hubs c = hubs_are_nodes c.args.instance.now c.args.hubs.now c.size-n.ensures.problem.limits c.requires

pub returns-then-not-is_route : goal.returns-then-not-is_route
returns-then-not-is_route c =
    first_fails c.is_route.result c.if-not-is_route.true (rw c.size-n.ensures.value at c.is_route.ensures)
    (λ routes. route_at c.args.instance.now c.args.hubs.now c.args.routes.now c.loop-i.i c.loop-j.j routes (omega arith) (omega arith))

pub loop-j-preserved : goal.loop-j-preserved
loop-j-preserved c =
    one_route_more c.args.instance.now c.args.hubs.now c.args.routes.now c.loop-i.i c.loop-j.j _ (omega (arith, square (goal.at.loop-j-preserved c).After-size-n))
    (omega arith) (omega arith) refl ((rw c.size-n.ensures.value at c.is_route.ensures).0 c.if-not-is_route.false) c.loop-j.invariant

pub returns : goal.returns
returns c = (
  λ h. all_routes c.args.instance.now c.args.hubs.now c.args.routes.now c.loop-i.i (omega (arith, square (goal.at.returns c).After-size-n))
      (omega arith) (omega arith) c.loop-i.invariant,
  λ routes. refl,
)
