use Rattle.std.proofs.Common.{◌+◌, ◌*◌, ◌≡◌, ◌<◌, get_or, ap, arith}
use Rattle.std.proofs.lemmas.List.Elements.{length_all_zip}
use Rattle.hub_spec.specs.Plans.{IsRoute}
use Rattle.hub_spec.specs.Problem.{commodities}
use Rattle.hub_spec.proofs.Commodities.{commodity_index, length_commodities}
use Rattle.hub_spec.proofs.Limits.{AreNodes, route_nodes}
use Rattle.hub_spec.proofs.PlanCosts.{IsCosted, costed_more, costed_limit, costed_all, route_at}
use Rattle.hub_model.proofs.costs.plan_cost.Goals as goal
use Rattle.hub_model.proofs.costs.plan_cost.Goals.{In-loop-j, After-cost_of_route-total}

place : (c : In-loop-j) → c.loop-i.i * c.size-n.result + c.loop-j.j ≡ c.loop-i.i * c.args.instance.now.size + c.loop-j.j
place c = ap (λ n. c.loop-i.i * n + c.loop-j.j) c.size-n.ensures.value

nodes : (c : In-loop-j) → AreNodes c.args.instance.now.size (c.loop-i.i, c.loop-j.j)
    (get_or c.args.routes.now (c.loop-i.i * c.size-n.result + c.loop-j.j) (0, 0))
nodes c =
    let p = c.args.instance.now in
    rw (place c) (route_nodes p c.args.hubs.now (c.loop-i.i, c.loop-j.j) _ c.size-n.ensures.problem.limits c.requires.hubs
    (route_at p c.args.hubs.now c.args.routes.now c.loop-i.i c.loop-j.j c.requires.routes (omega arith) (omega arith)))

pub bounds-routes-i : goal.bounds-routes-i
bounds-routes-i c =
    let p = c.args.instance.now in
    let n = c.size-n.ensures.value in
    let at : c.loop-i.i * c.size-n.result + c.loop-j.j ≡ c.loop-i.i * p.size + c.loop-j.j = ap (λ n. c.loop-i.i * n + c.loop-j.j) n in
    let row : c.loop-i.i < p.size = omega arith in
    let column : c.loop-j.j < p.size = omega arith in
    omega (
      arith,
      at,
      commodity_index p.size c.loop-i.i c.loop-j.j row column,
      length_commodities p.size,
      length_all_zip (IsRoute p c.args.hubs.now) (commodities p.size) c.args.routes.now c.requires.routes,
    )

pub bounds-routes-i-in-loop-j : goal.bounds-routes-i-in-loop-j
bounds-routes-i-in-loop-j c =
    let p = c.args.instance.now in
    let n = c.size-n.ensures.value in
    let at : c.loop-i.i * c.size-n.result + c.loop-j.j ≡ c.loop-i.i * p.size + c.loop-j.j = ap (λ n. c.loop-i.i * n + c.loop-j.j) n in
    let row : c.loop-i.i < p.size = omega arith in
    let column : c.loop-j.j < p.size = omega arith in
    omega (
      arith,
      at,
      commodity_index p.size c.loop-i.i c.loop-j.j row column,
      length_commodities p.size,
      length_all_zip (IsRoute p c.args.hubs.now) (commodities p.size) c.args.routes.now c.requires.routes,
    )

pub cost_of_route-total-requires-clause-first : goal.cost_of_route-total-requires-clause-first
cost_of_route-total-requires-clause-first c = (nodes c).first

pub cost_of_route-total-requires-clause-last : goal.cost_of_route-total-requires-clause-last
cost_of_route-total-requires-clause-last c = (nodes c).last

more : (c : After-cost_of_route-total) → IsCosted c.args.instance.now c.args.hubs.now c.args.routes.now
    (c.loop-i.i * c.args.instance.now.size + (c.loop-j.j + 1)) (c.loop-j.total + c.cost_of_route-total.result)
more c =
    let p = c.args.instance.now in
    let at : c.loop-i.i * c.size-n.result + c.loop-j.j ≡ c.loop-i.i * p.size + c.loop-j.j =
    ap (λ n. c.loop-i.i * n + c.loop-j.j) c.size-n.ensures.value in
    rw c.cost_of_route-total.ensures.value
    (costed_more p c.args.hubs.now c.args.routes.now c.loop-i.i c.loop-j.j c.loop-j.total
    (get_or c.args.routes.now (c.loop-i.i * c.size-n.result + c.loop-j.j) (0, 0)) c.requires.routes
    (omega (arith, length_commodities p.size, length_all_zip (IsRoute p c.args.hubs.now) (commodities p.size) c.args.routes.now c.requires.routes))
    (omega arith) (omega arith) (ap (λ m. get_or c.args.routes.now m (0, 0)) at) c.loop-j.invariant)

pub overflow_add-total : goal.overflow_add-total
overflow_add-total c =
    let fits = costed_limit c.args.instance.now c.args.hubs.now c.args.routes.now _ (c.loop-j.total + c.cost_of_route-total.result)
    c.size-n.ensures.problem c.requires.hubs c.requires.routes (more c) in
    omega (arith, fits)

pub loop-j-preserved : goal.loop-j-preserved
loop-j-preserved c = more c

pub returns-clause-value : goal.returns-clause-value
returns-clause-value c =
    let p = c.args.instance.now in
    let all : c.loop-i.i ≡ p.size = omega arith in
    costed_all p c.args.hubs.now c.args.routes.now (c.loop-i.i * p.size) c.loop-i.total
    (omega (arith, length_commodities p.size, length_all_zip (IsRoute p c.args.hubs.now) (commodities p.size) c.args.routes.now c.requires.routes))
    (ap (λ n. n * p.size) all) c.loop-i.invariant

pub returns-clause-limit : goal.returns-clause-limit
returns-clause-limit c =
    costed_limit c.args.instance.now c.args.hubs.now c.args.routes.now (c.loop-i.i * c.args.instance.now.size) c.loop-i.total
    c.size-n.ensures.problem c.requires.hubs c.requires.routes c.loop-i.invariant
