-- Least costs and least routes by hubs, from lengths.
use Rattle.std.proofs.Common.{◌≡◌, ℕ, ◌+◌, ◌-◌, ◌*◌, ◌<◌, ◌≤◌, List, length, slice_index, Contains, true, None, refl, inl, inr, sym, ap, ap₂, subst, ⊎_elim, ◌∙◌, mul-le-mul_left, arith}
use Rattle.std.specs.List.Sorted.{IsStrictlyIncreasing}
use Rattle.std.proofs.lemmas.Bool.{cases_lt}
use Rattle.std.proofs.lemmas.List.{get_or_default}
use Rattle.std.proofs.lemmas.List.Elements.{Contains-get_or, All-contains}
use Rattle.std.proofs.lemmas.List.Kept.{AllPairs-from_increasing}
use Rattle.hub_spec.specs.Problem.{Problem, IsProblem, flow, route_cost, is_allowed}
use Rattle.hub_spec.specs.Plans.{IsHubSet, IsUpTo}
use Rattle.hub_spec.proofs.Limits.{hubs_are_nodes}
use Rattle.hub_spec.proofs.PlanCosts.{any_allowed}
use Rattle.unit_duals.specs.Lengths.{UnitLegs, IsHub, way}
use Rattle.unit_duals.specs.LeastValues.{by_one, by_two, IsPrice, IsByHubs}
use Rattle.unit_duals.specs.Hops.{IsFirstRoute}
use Rattle.leg_duals.specs.StopLegs.{stop_node, AreLegsOf, AreFirstLegsOf}
use Rattle.leg_duals.specs.Theorems.{PriceIsLeastCost, FirstRouteIsLeast, FirstHubServesNoFlow}
use Rattle.leg_duals.proofs.StopNodes.{hub_node}
use Rattle.leg_duals.proofs.RouteLengths.{hub_stop, stop_hub, way_costs, alone_costs}

scaled_lt : (w a b : ℕ) → 1 ≤ w → a < b → w * a < w * b
scaled_lt w a b some less = omega (arith, mul-le-mul_left w (next a b less), some)
  where
    next : (x y : ℕ) → x < y → x + 1 ≤ y
    next x y h = omega (arith, h)

-- ---- the price

least_by_ways : (p : Problem) (hubs order : List ℕ) (start i j a : ℕ) (l : UnitLegs) (first : List ℕ) → AreLegsOf p hubs order start l
    → AreFirstLegsOf p hubs order i first → j < l.size → IsPrice l first j a → (x y : ℕ) → Contains hubs x → Contains hubs y
    → flow p i (start + j) * a ≤ route_cost p i (start + j) x y
least_by_ways p hubs order start i j a l first legs from column price x y is_hub is_other =
    let k = hub_stop p hubs order start x l legs is_hub in
    let m = hub_stop p hubs order start y l legs is_other in
    let less = mul-le-mul_left (flow p i (start + j)) (price.two k.0 m.0 k.1 m.1) in
    let cost = way_costs p hubs order start i j k.0 m.0 l first legs from k.1.1 m.1.1 column in
    let nodes = ap₂ (route_cost p i (start + j)) k.2 m.2 in
    omega (arith, less, cost, nodes)

-- some route by hubs costs the flow times the price
abbrev Reached : Problem → List ℕ → ℕ → ℕ → ℕ → Type 0
Reached p hubs i j v =
    (k : ℕ) × (m : ℕ) × Contains hubs k × Contains hubs m × (route_cost p i j k m ≡ v) × (is_allowed p (i, j) k m ≡ true)

reached_by : (p : Problem) (hubs order : List ℕ) (start i j a : ℕ) (l : UnitLegs) (first : List ℕ) → IsProblem p → p.longest ≡ None
    → IsHubSet p hubs → AreLegsOf p hubs order start l → AreFirstLegsOf p hubs order i first → j < l.size → IsByHubs l first j a
    → Reached p hubs i (start + j) (flow p i (start + j) * a)
reached_by p hubs order start i j a l first ok any set legs from column (by_one m hub is) =
    let node = stop_node hubs order m in
    let here = stop_hub p hubs order start m l legs hub in
    let below : node < p.size = All-contains (λ k. k < p.size) hubs node (hubs_are_nodes p hubs ok.limits set) here in (
      node,
      node,
      here,
      here,
      sym (alone_costs p hubs order start i j m l first ok legs from hub.1 column below)
          ∙ ap (λ (x : ℕ). flow p i (start + j) * x) (sym is),
      any_allowed p (i, start + j) node node any,
    )
reached_by p hubs order start i j a l first ok any set legs from column (by_two k m hub other is) = (
  stop_node hubs order k,
  stop_node hubs order m,
  stop_hub p hubs order start k l legs hub,
  stop_hub p hubs order start m l legs other,
  sym (way_costs p hubs order start i j k m l first legs from hub.1 other.1 column) ∙ ap (λ (x : ℕ). flow p i (start + j) * x) (sym is),
  any_allowed p (i, start + j) (stop_node hubs order k) (stop_node hubs order m) any,
)

pub price_is_least : PriceIsLeastCost
price_is_least p hubs order start i j a l first ok any set legs from column price = record {
  reached = reached_by p hubs order start i j a l first ok any set legs from column price.is;
  least = λ k m is_hub is_other _. least_by_ways p hubs order start i j a l first legs from column price k m is_hub is_other;
}

-- ---- the route

-- later hubs are greater nodes
nodes_ascend : (p : Problem) (hubs order : List ℕ) (start x y : ℕ) (l : UnitLegs) → IsStrictlyIncreasing hubs → AreLegsOf p hubs order start l
    → IsHub l x → IsHub l y → x < y → stop_node hubs order x < stop_node hubs order y
nodes_ascend p hubs order start x y l up legs hub other before =
    let same : length order + (x - length order) ≡ x = omega (arith, legs.places, hub.0) in
    let same_last : length order + (y - length order) ≡ y = omega (arith, legs.places, other.0) in
    let less = AllPairs-from_increasing hubs up (x - length order) (y - length order) 0 (omega (arith, legs.places, hub.0, before))
    (omega (arith, legs.places, legs.hubs_too, other.0, other.1)) in
    let left = hub_node hubs order (x - length order) in
    let right = hub_node hubs order (y - length order) in
    subst (λ (s : ℕ). stop_node hubs order s < stop_node hubs order y) same
    (subst (λ (s : ℕ). stop_node hubs order (length order + (x - length order)) < stop_node hubs order s) same_last
    (omega (arith, less, left, right)))

-- ways whose routes cost the same are as long, where there is flow
not_shorter : (w a b : ℕ) → 1 ≤ w → w * a ≡ w * b → a < b → ⊥
not_shorter w a b some same less = omega (arith, scaled_lt w a b some less, same)

-- the first of the shortest is not after a way that is as long
up_to : (p : Problem) (hubs order : List ℕ) (start i j k m x y : ℕ) (l : UnitLegs) (first : List ℕ) → IsHubSet p hubs
    → AreLegsOf p hubs order start l → 1 ≤ flow p i (start + j) → IsFirstRoute l first j k m → IsHub l x → IsHub l y
    → flow p i (start + j) * way l first k m j ≡ flow p i (start + j) * way l first x y j
    → IsUpTo (stop_node hubs order k, stop_node hubs order m) (stop_node hubs order x, stop_node hubs order y)
up_to p hubs order start i j k m x y l first set legs some route hub other same = ⊎_elim
    (λ (early : x < k). absurd (not_shorter w (way l first k m j) (way l first x y j) some same (route.first_hub x y hub other early)))
    (λ (late : k ≤ x). ⊎_elim
    (λ (later : k < x). inl (nodes_ascend p hubs order start k x l set.ascend legs route.first_is_hub hub later))
    (λ (least : x ≤ k). let one : x ≡ k = omega (arith, late, least) in inr (ap (stop_node hubs order) (sym one), last one))
    (cases_lt k x)) (cases_lt x k)
  where
    w : ℕ
    w = flow p i (start + j)

    last : x ≡ k → stop_node hubs order m ≤ stop_node hubs order y
    last one = ⊎_elim
        (λ (early : y < m). let as_long = subst (λ (s : ℕ). w * way l first k m j ≡ w * way l first s y j) one same in
        absurd (not_shorter w (way l first k m j) (way l first k y j) some as_long (route.last_hub y other early)))
        (λ (late : m ≤ y). ⊎_elim
        (λ (later : m < y). (let h = nodes_ascend p hubs order start m y l set.ascend legs route.last_is_hub other later in omega (arith, h)))
        (λ (least : y ≤ m). let equal : m ≡ y = omega (arith, late, least) in let nodes = ap (stop_node hubs order) equal in omega (arith, nodes))
        (cases_lt m y)) (cases_lt y m)

pub first_route_least : FirstRouteIsLeast
first_route_least p hubs order start i j k m l first any set legs from column some route = record {
  is_route = record {
    first = stop_hub p hubs order start k l legs route.first_is_hub;
    last = stop_hub p hubs order start m l legs route.last_is_hub;
    allowed = any_allowed p (i, start + j) (stop_node hubs order k) (stop_node hubs order m) any;
  };
  least = λ o taken. (let x = hub_stop p hubs order start o.0 l legs taken.first in let y = hub_stop p hubs order start o.1 l legs taken.last in
      let less = mul-le-mul_left w (route.least x.0 y.0 x.1 y.1) in
      let nodes = ap₂ (route_cost p i (start + j)) x.2 y.2 in
      omega (arith, less, here, there x.0 y.0 x.1 y.1, nodes));
  first = λ o taken same. (let x = hub_stop p hubs order start o.0 l legs taken.first in let y = hub_stop p hubs order start o.1 l legs taken.last in
      let nodes = ap₂ (route_cost p i (start + j)) x.2 y.2 in
      subst (λ (s : ℕ). IsUpTo (stop_node hubs order k, stop_node hubs order m) (o.0, s)) y.2
      (subst (λ (s : ℕ). IsUpTo (stop_node hubs order k, stop_node hubs order m) (s, stop_node hubs order y.0)) x.2
      (up_to p hubs order start i j k m x.0 y.0 l first set legs some route x.1 y.1
      (omega (arith, same, here, there x.0 y.0 x.1 y.1, nodes)))));
}
  where
    w : ℕ
    w = flow p i (start + j)

    there : (x y : ℕ) → IsHub l x → IsHub l y
        → w * way l first x y j ≡ route_cost p i (start + j) (stop_node hubs order x) (stop_node hubs order y)
    there x y hub other = way_costs p hubs order start i j x y l first legs from hub.1 other.1 column

    here : w * way l first k m j ≡ route_cost p i (start + j) (stop_node hubs order k) (stop_node hubs order m)
    here = there k m route.first_is_hub route.last_is_hub

-- ---- no flow

pub no_flow_cost : (p : Problem) (i j k m : ℕ) → flow p i j ≡ 0 → route_cost p i j k m ≡ 0
unfolding route_cost
no_flow_cost p i j k m none = rw none (omega arith)

pub no_flow_allowed : (p : Problem) (i j k m : ℕ) → flow p i j ≡ 0 → is_allowed p (i, j) k m ≡ true
unfolding is_allowed
no_flow_allowed p i j k m none = rw none refl

-- the first hub is not after another
first_hub_least : (hubs : List ℕ) (h : ℕ) → IsStrictlyIncreasing hubs → Contains hubs h → slice_index hubs 0 ≤ h
first_hub_least hubs h up is_in =
    let is : slice_index hubs is_in.0 ≡ h = get_or_default hubs is_in.0 0 h is_in.1 ∙ is_in.2 in
    ⊎_elim
    (λ (later : 0 < is_in.0). let less = AllPairs-from_increasing hubs up 0 is_in.0 0 later is_in.1 in omega (arith, less, is))
    (λ (none : is_in.0 ≤ 0). let zero : is_in.0 ≡ 0 = omega (arith, none) in let same = ap (slice_index hubs) zero in omega (arith, same, is))
    (cases_lt 0 is_in.0)

pub no_flow_route : FirstHubServesNoFlow
no_flow_route p hubs i j set none = record {
  is_route = record {
    first = Contains-get_or hubs 0 0 set.some_hub;
    last = Contains-get_or hubs 0 0 set.some_hub;
    allowed = no_flow_allowed p i j (slice_index hubs 0) (slice_index hubs 0) none;
  };
  least = λ o taken. (let h = no_flow_cost p i j (slice_index hubs 0) (slice_index hubs 0) none in omega (arith, h));
  first = λ o taken same. (let a = first_hub_least hubs o.0 set.ascend taken.first in let b = first_hub_least hubs o.1 set.ascend taken.last in
      ⊎_elim inl (λ (least : o.0 ≤ slice_index hubs 0). inr (omega (arith, a, least), b)) (cases_lt (slice_index hubs 0) o.0));
}
