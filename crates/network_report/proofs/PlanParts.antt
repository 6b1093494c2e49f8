-- The parts of what a plan's routes cost: together, and in a loop over the routes.
use Rattle.std.proofs.Common.{◌≡◌, ℕ, ◌+◌, ◌*◌, ◌/◌, ◌%◌, ◌<◌, ◌≤◌, List, length, get_or, take, sum_by, sym, ap, ◌∙◌, mul-add, arith}
use Rattle.std.proofs.lemmas.Nat.{mul-le}
use Rattle.std.proofs.lemmas.List.{take_all}
use Rattle.std.proofs.lemmas.List.Sums.{sum_by_more, sum_by_more_le}
use Rattle.std.proofs.lemmas.List.Elements.{AllZip-get_or}
use Rattle.std.proofs.lemmas.Slice.Zip.{AllZip-long, length-zip, get_or-zip}
use Rattle.hub_spec.specs.Limits.{most_cost}
use Rattle.hub_spec.specs.Problem.{Problem, flow, distance, route_cost, opening_cost, commodities, IsProblem}
use Rattle.hub_spec.specs.Plans.{Plan, IsRoute, IsPlan, cost_of_route, routing_cost}
use Rattle.hub_spec.specs.Certificates.{Proof, Holds}
use Rattle.hub_spec.proofs.SumLemmas.{sum_by-plus, sum_by-same}
use Rattle.hub_spec.proofs.Commodities.{length_commodities, commodity_nodes, commodity_at}
use Rattle.hub_spec.proofs.Limits.{AreNodes, routes_nodes, route_cost_limit, plan_cost_limit}
use Rattle.network_report.specs.Parts.{routed, collection_leg, trunk_leg, delivery_leg, collection_cost, trunk_cost, delivery_cost}

-- a commodity with its route
abbrev pub Routed : Type 0
Routed = (ℕ × ℕ) × (ℕ × ℕ)

-- ---- the parts together

legs_of_route : (p : Problem) (x : Routed) → collection_leg p x + trunk_leg p x + delivery_leg p x ≡ cost_of_route p x
unfolding route_cost
legs_of_route p x =
    let w = flow p x.0.0 x.0.1 in
    let out = p.collect * distance p x.0.0 x.1.0 in
    let across = p.trunk * distance p x.1.0 x.1.1 in
    let back = p.deliver * distance p x.1.1 x.0.1 in
    omega (arith, mul-add w (out + across) back, mul-add w out across)

-- each leg is within the cost of the route
pub legs_limit : (p : Problem) (i j k m : ℕ) → IsProblem p → i < p.size → j < p.size → k < p.size → m < p.size
    → collection_leg p ((i, j), (k, m)) + trunk_leg p ((i, j), (k, m)) + delivery_leg p ((i, j), (k, m)) ≤ most_cost
legs_limit p i j k m ok from to first last =
    omega (arith, legs_of_route p ((i, j), (k, m)), route_cost_limit p i j k m ok from to first last)

parts_of_routing : (p : Problem) (plan : Plan)
    → collection_cost p plan + trunk_cost p plan + delivery_cost p plan ≡ routing_cost p (commodities p.size) plan.routes
parts_of_routing p plan =
    let xs = routed p plan in
    omega (
      arith,
      sum_by-plus (collection_leg p) (trunk_leg p) xs,
      sum_by-plus (λ (x : Routed). collection_leg p x + trunk_leg p x) (delivery_leg p) xs,
      sum_by-same (λ (x : Routed). collection_leg p x + trunk_leg p x + delivery_leg p x) (cost_of_route p) xs (legs_of_route p),
    )

pub parts_of_cost : (p : Problem) (k : Proof) → Holds p k
    → collection_cost p k.plan + trunk_cost p k.plan + delivery_cost p k.plan + opening_cost p k.plan.hubs ≡ k.cost
parts_of_cost p k holds = omega (arith, parts_of_routing p k.plan, holds.cost)

pub parts_limit : (p : Problem) (plan : Plan) → IsProblem p → IsPlan p plan
    → collection_cost p plan + trunk_cost p plan + delivery_cost p plan ≤ most_cost
parts_limit p plan ok is_plan = omega (arith, parts_of_routing p plan, plan_cost_limit p plan ok is_plan)

-- ---- a loop over the routes

length_routes : (p : Problem) (plan : Plan) → IsPlan p plan → length plan.routes ≡ p.size * p.size
length_routes p plan is_plan =
    AllZip-long (IsRoute p plan.hubs) (commodities p.size) plan.routes is_plan.routes ∙ length_commodities p.size

pub length_routed : (p : Problem) (plan : Plan) → IsPlan p plan → length (routed p plan) ≡ p.size * p.size
length_routed p plan is_plan =
    length-zip (commodities p.size) plan.routes ∙ omega (arith, length_commodities p.size, length_routes p plan is_plan)

-- both nodes of the commodity number t, and both hubs of its route
pub record AreEnds (n t : ℕ) (route : ℕ × ℕ) : Type 0 where
  pub from : t / n < n
  pub to : t % n < n
  pub first : route.0 < n
  pub last : route.1 < n

-- the routes are the plan's
module _ (p : Problem) (plan : Plan) (routes : List (ℕ × ℕ)) (t : ℕ) (is_plan : IsPlan p plan) (same : routes ≡ plan.routes) where
  pub long : length routes ≡ p.size * p.size
  long = ap length same ∙ length_routes p plan is_plan

  -- the commodity number t, with its route
  abbrev pub here : Routed
  here = ((t / p.size, t % p.size), ((get_or routes t (0, 0)).0, (get_or routes t (0, 0)).1))

  pub few : IsProblem p → t < length routes → t < 40000
  few ok below = omega (arith, long, mul-le p.size p.size 200 200 ok.size_limit ok.size_limit)

  pub within : t < length routes → t < length (routed p plan)
  within below = omega (arith, long, length_routed p plan is_plan)

  pub routed_here : t < length routes → get_or (routed p plan) t ((0, 0), (0, 0)) ≡ here
  routed_here below =
      get_or-zip (commodities p.size) plan.routes t ((0, 0), (0, 0)) (omega (arith, long, length_commodities p.size)) (omega (arith, ap length same))
      ∙ ap (λ (c : ℕ × ℕ). (c, get_or plan.routes t (0, 0))) (commodity_at p.size t (0, 0) (omega (arith, long)))
      ∙ ap (λ (rs : List (ℕ × ℕ)). ((t / p.size, t % p.size), get_or rs t (0, 0))) (sym same)

  pub ends_here : IsProblem p → t < length routes → AreEnds p.size t (get_or routes t (0, 0))
  ends_here ok below =
      let nodes = commodity_nodes p.size t (omega (arith, long)) in
      let all = routes_nodes p plan.hubs (commodities p.size) plan.routes ok.limits is_plan.hubs is_plan.routes in
      let at = AllZip-get_or (AreNodes p.size) (commodities p.size) plan.routes t (0, 0) (0, 0) all (omega (arith, long, length_commodities p.size)) in
      let first = ap (λ (rs : List (ℕ × ℕ)). (get_or rs t (0, 0)).0) same in
      let last = ap (λ (rs : List (ℕ × ℕ)). (get_or rs t (0, 0)).1) same in
      record { from = nodes.0; to = nodes.1; first = omega (arith, first, at.first); last = omega (arith, last, at.last) }

  -- one more leg, for which there is room
  pub leg_more : (f : Routed → ℕ) → t < length routes → sum_by f (take (t + 1) (routed p plan)) ≡ sum_by f (take t (routed p plan)) + f here
  leg_more f below =
      sum_by_more f (routed p plan) t ((0, 0), (0, 0)) (within below)
      ∙ ap (λ (x : Routed). sum_by f (take t (routed p plan)) + f x) (routed_here below)

  pub leg_fits : (f : Routed → ℕ) → t < length routes → sum_by f (take t (routed p plan)) + f here ≤ sum_by f (routed p plan)
  leg_fits f below =
      let at = ap f (routed_here below) in
      omega (arith, at, sum_by_more_le f (routed p plan) t ((0, 0), (0, 0)) (within below))

  -- and after the last one
  pub all_routed : length routes ≤ t → take t (routed p plan) ≡ routed p plan
  all_routed past = take_all t (routed p plan) (omega (arith, long, length_routed p plan is_plan))
