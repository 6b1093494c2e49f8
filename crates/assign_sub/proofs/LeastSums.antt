-- The sum of the least costs of all commodities, in a loop by i and j.
use Rattle.std.proofs.Common.{◌≡◌, ℕ, ◌+◌, ◌*◌, ◌<◌, ◌≤◌, List, [], ◌∷◌, ◌++◌, take, zip, refl, sym, ap, subst, arith}
use Rattle.std.specs.List.{AllZip}
use Rattle.std.proofs.lemmas.List.{take_all}
use Rattle.std.proofs.lemmas.List.Sums.{sum_by-cons}
use Rattle.hub_spec.specs.Limits.{most_cost}
use Rattle.hub_spec.specs.Problem.{Problem, IsProblem, opening_cost, commodities}
use Rattle.hub_spec.specs.Edges.{IsLeastCost}
use Rattle.hub_spec.specs.Plans.{Plan, IsHubSet, IsRoute, IsPlan, IsSetCost, cost_of_route, routing_cost, plan_cost}
use Rattle.hub_spec.proofs.Commodities.{next_route, next_cost, length_commodities}
use Rattle.hub_spec.proofs.Limits.{AreNodes, route_nodes, next_nodes_limit, plan_cost_limit}
use Rattle.hub_spec.proofs.PlanCosts.{AllZip_weaker}

-- no route of the commodity by these hubs costs less
pub record IsCheapest (p : Problem) (hubs : List ℕ) (c r : ℕ × ℕ) : Type 0 where
  pub is_route : IsRoute p hubs c r
  pub least : (other : ℕ × ℕ) → IsRoute p hubs c other → cost_of_route p (c, r) ≤ cost_of_route p (c, other)

-- the total is what the hubs and cheapest routes of the first t commodities cost
pub record IsSummed (p : Problem) (hubs : List ℕ) (t total : ℕ) : Type 0 where
  pub routes : List (ℕ × ℕ)
  pub are : AllZip (IsCheapest p hubs) (take t (commodities p.size)) routes
  pub sum : total ≡ opening_cost p hubs + routing_cost p (take t (commodities p.size)) routes

-- a route that costs the least
abbrev pub reaching : (p : Problem) (hubs : List ℕ) (c : ℕ × ℕ) (v : ℕ) → IsLeastCost p hubs c v → ℕ × ℕ
reaching p hubs c v cost = (cost.reached.0, cost.reached.1)

pub reaching_cheapest : (p : Problem) (hubs : List ℕ) (c : ℕ × ℕ) (v : ℕ) (cost : IsLeastCost p hubs c v)
    → IsCheapest p hubs c (reaching p hubs c v cost)
reaching_cheapest p hubs c v cost = record {
  is_route = record { first = cost.reached.2; last = cost.reached.3; allowed = cost.reached.5 };
  least = λ o taken. omega (arith, cost.reached.4, cost.least o.0 o.1 taken.first taken.last taken.allowed);
}

pub summed_limit : (p : Problem) (hubs : List ℕ) (i j total v : ℕ) → IsProblem p → IsHubSet p hubs → i < p.size → j < p.size
    → IsSummed p hubs (i * p.size + j) total → IsLeastCost p hubs (i, j) v → total + v ≤ most_cost
summed_limit p hubs i j total v ok set row column so_far cost =
    let nodes = AllZip_weaker (IsCheapest p hubs) (AreNodes p.size) (take (i * p.size + j) (commodities p.size)) so_far.routes
    (λ c r cheap. route_nodes p hubs c r ok.limits set cheap.is_route) so_far.are in
    let r = reaching p hubs (i, j) v cost in
    let next = next_nodes_limit p hubs i j so_far.routes r ok set row column nodes
    (route_nodes p hubs (i, j) r ok.limits set (reaching_cheapest p hubs (i, j) v cost).is_route) in
    omega (arith, so_far.sum, next, cost.reached.4)

pub summed_more : (p : Problem) (hubs : List ℕ) (i j total v : ℕ) → i < p.size → j < p.size → IsSummed p hubs (i * p.size + j) total
    → IsLeastCost p hubs (i, j) v → IsSummed p hubs (i * p.size + (j + 1)) (total + v)
summed_more p hubs i j total v row column so_far cost =
    let r = reaching p hubs (i, j) v cost in
    record {
      routes = so_far.routes ++ r ∷ [];
      are = next_route (IsCheapest p hubs) p.size i j so_far.routes r row column so_far.are (reaching_cheapest p hubs (i, j) v cost);
      sum = omega (arith, so_far.sum, next_cost p (IsCheapest p hubs) p.size i j so_far.routes r row column so_far.are, cost.reached.4);
    }

cheapest_routing : (p : Problem) (hubs : List ℕ) (cs rs others : List (ℕ × ℕ)) → AllZip (IsCheapest p hubs) cs rs
    → AllZip (IsRoute p hubs) cs others → routing_cost p cs rs ≤ routing_cost p cs others
cheapest_routing p hubs [] rs others least taken = omega arith
cheapest_routing p hubs (c ∷ cs) [] others least taken = absurd least
cheapest_routing p hubs (c ∷ cs) (r ∷ rs) [] least taken = absurd taken
cheapest_routing p hubs (c ∷ cs) (r ∷ rs) (o ∷ others) least taken =
    omega (
      arith,
      sum_by-cons (cost_of_route p) (c, r) (zip cs rs),
      sum_by-cons (cost_of_route p) (c, o) (zip cs others),
      least.0.least o taken.0,
      cheapest_routing p hubs cs rs others least.1 taken.1,
    )

-- the cost of the set, within its limit
pub record IsWholeSum (p : Problem) (hubs : List ℕ) (total : ℕ) : Type 0 where
  pub set_cost : IsSetCost p hubs total
  pub limit : total ≤ most_cost

pub summed_all : (p : Problem) (hubs : List ℕ) (t total : ℕ) → IsProblem p → IsHubSet p hubs → t ≡ p.size * p.size → IsSummed p hubs t total
    → IsWholeSum p hubs total
summed_all p hubs t total ok set all so_far = record {
  set_cost = record {
    reached = (plan, is_plan, refl, sym cost);
    least = λ other is_other same. (let taken = subst (λ (hs : List ℕ). AllZip (IsRoute p hs) (commodities p.size) other.routes) same is_other.routes in
        let opened = ap (opening_cost p) same in
        omega (arith, cost, cheapest_routing p hubs (commodities p.size) so_far.routes other.routes are taken, opened));
  };
  limit = omega (arith, cost, plan_cost_limit p plan ok is_plan);
}
  where
    whole : take t (commodities p.size) ≡ commodities p.size
    whole = take_all t (commodities p.size) (omega (arith, all, length_commodities p.size))

    plan : Plan
    plan = record { hubs = hubs; routes = so_far.routes }

    are : AllZip (IsCheapest p hubs) (commodities p.size) so_far.routes
    are = subst (λ (cs : List (ℕ × ℕ)). AllZip (IsCheapest p hubs) cs so_far.routes) whole so_far.are

    is_plan : IsPlan p plan
    is_plan = record {
      hubs = set;
      routes = AllZip_weaker (IsCheapest p hubs) (IsRoute p hubs) (commodities p.size) so_far.routes (λ c r cheap. cheap.is_route) are;
    }

    cost : total ≡ plan_cost p plan
    cost = omega (arith, so_far.sum, ap (λ (cs : List (ℕ × ℕ)). routing_cost p cs so_far.routes) whole)
