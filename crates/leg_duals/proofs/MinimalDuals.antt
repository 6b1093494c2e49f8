-- What is worked out over ways that are near enough are the minimal duals by unit of flow.
use Rattle.std.proofs.Common.{◌≡◌, ℕ, ◌+◌, ◌-◌, ◌*◌, ◌<◌, ◌≤◌, true, List, length, slice_index, Contains, ⊎_elim, refl, ap, ap₂, sym, ◌∙◌, eq-zero-or-pos, mul-le-mul_left, arith}
use Rattle.hub_spec.specs.Problem.{Problem, IsProblem, flow, route_cost, is_allowed}
use Rattle.hub_spec.specs.Plans.{IsHubSet}
use Rattle.hub_spec.specs.Edges.{IsLeastCost}
use Rattle.hub_spec.specs.Cuts.{Prices, value_at}
use Rattle.hub_spec.specs.Separation.{IsOrder, IsMinimalDual, minimal_dual}
use Rattle.hub_spec.proofs.SetCuts.{value_within}
use Rattle.hub_spec.proofs.SetCutFunction.{minimal_dual_is, price_same}
use Rattle.hub_model.proofs.AllowedRoutes.{set_has_route}
use Rattle.unit_duals.specs.Cells.{cell}
use Rattle.leg_duals.specs.UnitDuals.{AreUnitDuals}
use Rattle.leg_duals.proofs.LegLimits.{distance_limit, leg_limit}
use Rattle.leg_duals.proofs.StopRoutes.{no_flow_cost}
use Rattle.leg_duals.proofs.StopNodes.{hub_place, place_hub}
use Rattle.leg_duals.proofs.PlaceValues.{AreWaysPriced, IsAsked, nothing, by_itself, to_hub, from_hub, to_earlier, from_earlier, IsLeastAsked, values_of_minimal}
use Rattle.leg_duals.specs.Ways.{WaysFrom, stop_count, node_of, IsHub, IsNear, way, no_way}
use Rattle.leg_duals.specs.Duals.{IsHubWay, IsPlaceWay, alone, to_hub as way_to_hub, from_hub as way_from_hub, to_earlier as way_to_earlier, from_earlier as way_from_earlier, ArePrices, AreValues, AreDuals}
use Rattle.leg_duals.specs.Parts.{AreWays}
use Rattle.leg_duals.proofs.WayLegs.{stop_node_below}
use Rattle.leg_duals.proofs.AllowedWays.{near_allowed, allowed_near}

-- ---- the destination j, whose node is start + j

destination : (w : WaysFrom) (j : ℕ) → AreWays w → j < w.size → w.start + j < w.problem.size
destination w j is low = omega (arith, is.destinations, low)

-- a way's length is below what stands for none
way_limit : (w : WaysFrom) (k m j : ℕ) → AreWays w → k < stop_count w → m < stop_count w → j < w.size → way w k m j < no_way
way_limit w k m j is first last low =
    let p = w.problem in
    let ok = is.problem in
    let one = stop_node_below w k is first in
    let two = stop_node_below w m is last in
    omega (
      arith,
      leg_limit p.collect _ ok.collect_limit (distance_limit p w.origin (node_of w k) ok is.from one),
      leg_limit p.trunk _ ok.trunk_limit (distance_limit p (node_of w k) (node_of w m) ok one two),
      leg_limit p.deliver _ ok.deliver_limit (distance_limit p (node_of w m) (w.start + j) ok two (destination w j is low)),
    )

way_cost_is : (w : WaysFrom) (k m j : ℕ)
    → flow w.problem w.origin (w.start + j) * way w k m j ≡ route_cost w.problem w.origin (w.start + j) (node_of w k) (node_of w m)
unfolding route_cost
way_cost_is w k m j = refl

-- ---- where there is flow

priced_at : (w : WaysFrom) (j : ℕ) → AreWays w → j < w.size → 1 ≤ flow w.problem w.origin (w.start + j)
    → AreWaysPriced w.problem w.hubs w.order (w.origin, w.start + j) (flow w.problem w.origin (w.start + j)) (λ k m. IsNear w k m j) (λ k m. way w k m j)
priced_at w j is low some = record {
  cost = λ k m first last. way_cost_is w k m j;
  near_allowed = λ k m first last near. near_allowed w.problem w.origin (w.start + j) (node_of w k) (node_of w m) is.problem is.from (destination w j is low)
      (stop_node_below w k is first) (stop_node_below w m is last) near;
  allowed_near = λ k m first last allowed. allowed_near w.problem w.origin (w.start + j) (node_of w k) (node_of w m) is.problem is.from (destination w j is low)
      (stop_node_below w k is first) (stop_node_below w m is last) some allowed;
}

-- the price is not above a way by hubs that is allowed
price_below : (w : WaysFrom) (prices : List ℕ) (j x y : ℕ) → AreWays w → ArePrices w prices → j < w.size → 1 ≤ flow w.problem w.origin (w.start + j)
    → Contains w.hubs x → Contains w.hubs y → is_allowed w.problem (w.origin, w.start + j) x y ≡ true
    → (k : ℕ) × (m : ℕ) × IsHub w k × IsHub w m × (node_of w k ≡ x) × (node_of w m ≡ y) × (slice_index prices j ≤ way w k m j)
price_below w prices j x y is are low some in_first in_last allowed =
    let k = hub_place w.hubs w.order x in_first in
    let m = hub_place w.hubs w.order y in_last in
    let near = (priced_at w j is low some).allowed_near k.0 m.0 k.1.1 m.1.1 (rw (k.2, m.2) allowed) in
    (k.0, m.0, k.1, m.1, k.2, m.2, are.met j (way w k.0 m.0 j) low (k.0, m.0, k.1, m.1, (near, refl)))

-- it is the length of some way by hubs
price_reached : (w : WaysFrom) (prices : List ℕ) (j : ℕ) → AreWays w → ArePrices w prices → j < w.size → 1 ≤ flow w.problem w.origin (w.start + j)
    → IsHubWay w j (slice_index prices j)
price_reached w prices j is are low some =
    let to = destination w j is low in
    let has = set_has_route w.problem w.hubs w.origin (w.start + j) is.set is.from to in
    let below = price_below w prices j has.0.0 has.0.1 is are low some has.1.first has.1.last has.1.allowed in
    ⊎_elim (λ (none : slice_index prices j ≡ no_way). absurd (omega (arith, none, below.6, way_limit w below.0 below.1 j is below.2.1 below.3.1 low)))
    (λ way_is. way_is) (are.is j low)

price_costs : (w : WaysFrom) (prices : List ℕ) (j : ℕ) → AreWays w → ArePrices w prices → j < w.size → 1 ≤ flow w.problem w.origin (w.start + j)
    → IsLeastCost w.problem w.hubs (w.origin, w.start + j) (flow w.problem w.origin (w.start + j) * slice_index prices j)
price_costs w prices j is are low some =
    let f = flow w.problem w.origin (w.start + j) in
    let r = price_reached w prices j is are low some in
    record {
      reached = (
        node_of w r.0,
        node_of w r.1,
        place_hub w.hubs w.order r.0 r.2,
        place_hub w.hubs w.order r.1 r.3,
        sym (way_cost_is w r.0 r.1 j) ∙ ap (λ (v : ℕ). f * v) (sym r.4.1),
        (priced_at w j is low some).near_allowed r.0 r.1 r.2.1 r.3.1 r.4.0,
      );
      least = λ x y in_first in_last allowed.
          (let b = price_below w prices j x y is are low some in_first in_last allowed in
          let cost = ap₂ (route_cost w.problem w.origin (w.start + j)) b.4 b.5 in
          omega (arith, mul-le-mul_left f b.6, way_cost_is w b.0 b.1 j, cost));
    }

-- the value of a place is the least that meets what the ways ask
least_asked : (w : WaysFrom) (prices : List ℕ) (values : ℕ → ℕ → ℕ) (j t : ℕ) → AreValues w prices values t → j < w.size
    → IsLeastAsked w.hubs w.order (λ k m. IsNear w k m j) (λ k m. way w k m j) (slice_index prices j) (λ e. values e j) t (values t j)
least_asked w prices values j t are low = record {
  itself = λ near. omega (arith, value, met (way w t t j) (alone (near, refl)));
  to_hubs = λ m hub near. omega (arith, value, met (way w t m j) (way_to_hub m hub (near, refl)));
  from_hubs = λ m hub near. omega (arith, value, met (way w m t j) (way_from_hub m hub (near, refl)));
  to_places = λ m early near. omega (arith, value, met (way w t m j + values m j) (way_to_earlier m early (near, refl)));
  from_places = λ m early near. omega (arith, value, met (way w m t j + values m j) (way_from_earlier m early (near, refl)));
  is = ⊎_elim (λ (same : are.least j ≡ slice_index prices j). nothing (omega (arith, value, same))) (λ some. asked (are.least j) refl some) (are.lowered.is j low);
}
  where
    value : values t j ≡ slice_index prices j - are.least j
    value = are.value j low

    below : are.least j ≤ slice_index prices j
    below = are.lowered.below j low

    met : (v : ℕ) → IsPlaceWay w values t j v → are.least j ≤ v
    met v some = are.lowered.met j v low some

    asked : (v : ℕ) → v ≡ are.least j → IsPlaceWay w values t j v
        → IsAsked w.hubs w.order (λ k m. IsNear w k m j) (λ k m. way w k m j) (slice_index prices j) (λ e. values e j) t (values t j)
    asked v same (alone is) = by_itself is.0 (omega (arith, value, below, same, is.1))
    asked v same (way_to_hub m hub is) = to_hub m hub is.0 (omega (arith, value, below, same, is.1))
    asked v same (way_from_hub m hub is) = from_hub m hub is.0 (omega (arith, value, below, same, is.1))
    asked v same (way_to_earlier m early is) = to_earlier m early is.0 (omega (arith, value, below, same, is.1))
    asked v same (way_from_earlier m early is) = from_earlier m early is.0 (omega (arith, value, below, same, is.1))

-- ---- where there is none

no_price : (p : Problem) (hubs : List ℕ) (i j a : ℕ) → flow p i j ≡ 0 → IsLeastCost p hubs (i, j) a → a ≡ 0
no_price p hubs i j a none least = omega (arith, least.reached.4, no_flow_cost p i j least.reached.0 least.reached.1 none)

-- ---- all of an origin

pub minimal_dual_of : (p : Problem) (hubs order : List ℕ) (i j : ℕ) → IsProblem p → IsHubSet p hubs → IsOrder p hubs order → i < p.size → j < p.size
    → IsMinimalDual p hubs order (i, j) (minimal_dual p hubs order (i, j))
minimal_dual_of p hubs order i j ok set is_order from to =
    minimal_dual_is p hubs order (i, j) ok (set_has_route p hubs i j set from to) is_order

minimal_at : (w : WaysFrom) (j : ℕ) → AreWays w → j < w.size
    → IsMinimalDual w.problem w.hubs w.order (w.origin, w.start + j) (minimal_dual w.problem w.hubs w.order (w.origin, w.start + j))
minimal_at w j is low = minimal_dual_of w.problem w.hubs w.order w.origin (w.start + j) is.problem is.set is.is_order is.from (destination w j is low)

price_at : (w : WaysFrom) (prices : List ℕ) (j : ℕ) → AreWays w → ArePrices w prices → j < w.size
    → flow w.problem w.origin (w.start + j) * slice_index prices j ≡ (minimal_dual w.problem w.hubs w.order (w.origin, w.start + j)).a
price_at w prices j is are low = ⊎_elim
    (λ (none : flow w.problem w.origin (w.start + j) ≡ 0).
    (let zero = no_price w.problem w.hubs w.origin (w.start + j) _ none (minimal_at w j is low).price in rw none (omega (arith, zero))))
    (λ some. price_same w.problem w.hubs (w.origin, w.start + j) _ _ (price_costs w prices j is are low some) (minimal_at w j is low).price)
    (eq-zero-or-pos (flow w.problem w.origin (w.start + j)))

value_of_place : (w : WaysFrom) (prices : List ℕ) (values : ℕ → ℕ → ℕ) (t j : ℕ) → AreWays w → ArePrices w prices
    → ((e : ℕ) → e < length w.order → AreValues w prices values e) → t < length w.order → j < w.size
    → flow w.problem w.origin (w.start + j) * values t j
    ≡ value_at (minimal_dual w.problem w.hubs w.order (w.origin, w.start + j)).u (slice_index w.order t)
value_of_place w prices values t j is are all place low = ⊎_elim
    (λ (none : f ≡ 0). (let zero = no_price w.problem w.hubs w.origin (w.start + j) d.a none minimal.price in
    let within = value_within w.problem w.hubs w.order (w.origin, w.start + j) d (slice_index w.order t) minimal in
    rw none (omega (arith, zero, within))))
    (λ some. values_of_minimal w.problem w.hubs w.order (w.origin, w.start + j) f (λ k m. IsNear w k m j) (λ k m. way w k m j) (slice_index prices j)
    (λ e. values e j) d (priced_at w j is low some) minimal (price_at w prices j is are low)
    (λ e below. least_asked w prices values j e (all e below) low) t place)
    (eq-zero-or-pos f)
  where
    f : ℕ
    f = flow w.problem w.origin (w.start + j)

    d : Prices
    d = minimal_dual w.problem w.hubs w.order (w.origin, w.start + j)

    minimal : IsMinimalDual w.problem w.hubs w.order (w.origin, w.start + j) d
    minimal = minimal_at w j is low

pub unit_duals_are : (w : WaysFrom) (prices values : List ℕ) → AreWays w → AreDuals w prices values
    → AreUnitDuals w.problem w.hubs w.order w.origin w.start w.size prices values
unit_duals_are w prices values is are = record {
  prices_long = are.prices_long;
  values_long = are.values_long;
  price = λ j low. price_at w prices j is are.are_prices low;
  value = λ t j place low. value_of_place w prices (cell w.size values) t j is are.are_prices are.are_values place low;
}
