-- The sums of a plan while its lines come.
use Rattle.std.specs.Prelude.{◌≡◌, ℕ, ◌+◌, ◌*◌, ◌≤◌, Bool, List, [], ◌∷◌, ◌++◌, length, take}
use Rattle.hub_spec.specs.Limits.{most_nodes, most_cost, most_fixed_cost}
use Rattle.hub_spec.specs.Problem.{Problem, fixed_cost, route_cost, commodities, opening_cost}
use Rattle.hub_spec.specs.Plans.{routing_cost}
use Rattle.cert_lines.specs.Marks.{marked}

-- the number of nodes, the hubs in ascending order, how many commodities have a route, and what these hubs and routes cost
pub record PlanTally : Type 0 where
  pub size : ℕ
  pub hubs : List ℕ
  pub routed : ℕ
  pub cost : ℕ

-- by the marks of the hubs
abbrev pub tally_of : List Bool → ℕ → ℕ → PlanTally
tally_of hubs routed cost = record { size = length hubs; hubs = marked hubs; routed = routed; cost = cost }

-- the sums of a plan of which no line has come
abbrev pub no_plan : ℕ → PlanTally
no_plan size = record { size = size; hubs = []; routed = 0; cost = 0 }

-- with one more hub
abbrev pub with_hub : Problem → PlanTally → ℕ → PlanTally
with_hub p tally k = record tally { hubs = tally.hubs ++ k ∷ []; cost = tally.cost + fixed_cost p k }

-- with the route of one more commodity
abbrev pub with_route : Problem → PlanTally → ℕ × ℕ → ℕ × ℕ → PlanTally
with_route p tally commodity route = record tally {
  routed = tally.routed + 1;
  cost = tally.cost + route_cost p commodity.0 commodity.1 route.0 route.1;
}

-- as many nodes as a problem may have, at most one route for each commodity, and each summand of the cost within its limit
pub record IsWithin (tally : PlanTally) : Type 0 where
  pub size_limit : tally.size ≤ most_nodes
  pub hub_limit : length tally.hubs ≤ tally.size
  pub route_limit : tally.routed ≤ tally.size * tally.size
  pub cost_limit : tally.cost ≤ length tally.hubs * most_fixed_cost + tally.routed * most_cost

-- the same, and there are so many hubs
pub record IsCounted (count : ℕ) (tally : PlanTally) : Type 0 where
  pub within : IsWithin tally
  pub open within use *
  pub count_is : count ≡ length tally.hubs

-- the sums are those of these hubs, and of these routes of the first commodities
pub record IsTallyOf (p : Problem) (hubs : List ℕ) (routes : List (ℕ × ℕ)) (tally : PlanTally) : Type 0 where
  pub size_is : tally.size ≡ p.size
  pub hubs_are : tally.hubs ≡ hubs
  pub routed_is : tally.routed ≡ length routes
  pub cost_is : tally.cost ≡ opening_cost p hubs + routing_cost p (take (length routes) (commodities p.size)) routes
