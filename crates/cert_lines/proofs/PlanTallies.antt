-- The sums of a plan by its hubs and routes.
use Rattle.std.proofs.Common.{◌≡◌, ℕ, Bool, ◌+◌, ◌*◌, ◌<◌, List, [], ◌∷◌, ◌++◌, length, take, zip, refl, ap, ◌∙◌, All, arith}
use Rattle.std.proofs.lemmas.List.{length_push, length-take-le, take_all}
use Rattle.std.proofs.lemmas.List.Elements.{All-contains}
use Rattle.std.proofs.lemmas.List.Sums.{sum_by_push}
use Rattle.hub_spec.specs.Problem.{Problem, fixed_cost, route_cost, commodities, opening_cost}
use Rattle.hub_spec.specs.Plans.{cost_of_route, routing_cost, plan_cost}
use Rattle.hub_spec.specs.Sums.{with_node}
use Rattle.hub_spec.proofs.SumLemmas.{zip_push}
use Rattle.hub_spec.proofs.Commodities.{length_commodities, commodity_index, take_commodities_next}
use Rattle.cert_lines.proofs.Marking.{with_node-end}
use Rattle.cert_lines.specs.Marks.{marked}
use Rattle.cert_lines.specs.PlanTallies.{PlanTally, tally_of, with_hub, with_route, IsTallyOf}

pub costs_plan : (p : Problem) (hubs : List ℕ) (routes : List (ℕ × ℕ)) (tally : PlanTally)
    → IsTallyOf p hubs routes tally → tally.routed ≡ p.size * p.size
    → tally.cost ≡ plan_cost p (record { hubs = hubs; routes = routes })
costs_plan p hubs routes tally so_far all =
    so_far.cost_is
    ∙ ap (λ (cs : List (ℕ × ℕ)). opening_cost p hubs + routing_cost p cs routes)
    (take_all (length routes) (commodities p.size) (omega (arith, so_far.routed_is, all, length_commodities p.size)))

-- the routes of the first commodities with one more
more_routing : (p : Problem) (routes : List (ℕ × ℕ)) (i j : ℕ) (route : ℕ × ℕ) → i < p.size → j < p.size → i * p.size + j ≡ length routes
    → routing_cost p (take (length (routes ++ route ∷ [])) (commodities p.size)) (routes ++ route ∷ [])
    ≡ routing_cost p (take (length routes) (commodities p.size)) routes + route_cost p i j route.0 route.1
more_routing p routes i j route from to place =
    let cs = take (i * p.size + j) (commodities p.size) in
    let grown : length (routes ++ route ∷ []) ≡ i * p.size + (j + 1) = omega (arith, length_push routes route, place) in
    let long : length routes ≡ length cs =
    omega (
      arith,
      place,
      length-take-le (i * p.size + j) (commodities p.size)
          (omega (arith, length_commodities p.size, commodity_index p.size i j from to)),
    ) in
    ap (λ (t : ℕ). routing_cost p (take t (commodities p.size)) (routes ++ route ∷ [])) grown
    ∙ ap (λ (ds : List (ℕ × ℕ)). routing_cost p ds (routes ++ route ∷ [])) (take_commodities_next p.size i j from to)
    ∙ rw (zip_push cs routes (i, j) route long) (sum_by_push (cost_of_route p) (zip cs routes) ((i, j), route))
    ∙ ap (λ (t : ℕ). routing_cost p (take t (commodities p.size)) routes + route_cost p i j route.0 route.1) place

pub has_route : (p : Problem) (hubs : List ℕ) (routes : List (ℕ × ℕ)) (tally : PlanTally) (commodity route : ℕ × ℕ)
    → IsTallyOf p hubs routes tally → commodity.0 < p.size → commodity.1 < p.size
    → commodity.0 * p.size + commodity.1 ≡ tally.routed
    → IsTallyOf p hubs (routes ++ route ∷ []) (with_route p tally commodity route)
has_route p hubs routes tally commodity route so_far from to place = record {
  size_is = so_far.size_is;
  hubs_are = so_far.hubs_are;
  routed_is = omega (arith, so_far.routed_is, length_push routes route);
  cost_is = omega (arith, so_far.cost_is, more_routing p routes commodity.0 commodity.1 route from to (place ∙ so_far.routed_is));
}

-- a hub above those before it
pub hub_behind : (k : ℕ) (hubs : List ℕ) → All (λ (m : ℕ). m < k) hubs → with_node k hubs ≡ hubs ++ k ∷ []
hub_behind k hubs above = with_node-end k hubs (λ m c. All-contains (λ (m : ℕ). m < k) hubs m above c)

pub hub_added : (p : Problem) (k : ℕ) (before after : List Bool) (routed cost fixed : ℕ)
    → length after ≡ length before → marked after ≡ marked before ++ k ∷ [] → fixed ≡ fixed_cost p k
    → tally_of after routed (cost + fixed) ≡ with_hub p (tally_of before routed cost) k
hub_added p k before after routed cost fixed long nodes is = rw (long, nodes, is) refl
