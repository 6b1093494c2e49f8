-- What is worked out by unit of flow over the legs of a separation are its minimal duals, where no length is limited.
use Rattle.std.proofs.Common.{◌≡◌, ℕ, ◌+◌, ◌*◌, ◌<◌, None, List, length, slice_index, ap, ◌∙◌, arith}
use Rattle.hub_spec.specs.Problem.{flow}
use Rattle.hub_spec.specs.Separation.{minimal_dual}
use Rattle.hub_spec.proofs.Limits.{hubs_are_nodes}
use Rattle.hub_spec.proofs.PlanCosts.{any_allowed}
use Rattle.hub_spec.proofs.SetCutFunction.{price_same}
use Rattle.hub_model.proofs.Turns.{order_nodes}
use Rattle.unit_duals.specs.Cells.{cell}
use Rattle.unit_duals.specs.Lengths.{stops, alone, way}
use Rattle.unit_duals.specs.LeastValues.{IsAsked as IsAskedOf, nothing as asked_nothing, by_itself as asked_by_itself, to_hub as asked_to_hub, from_hub as asked_from_hub, to_earlier as asked_to_earlier, from_earlier as asked_from_earlier, IsLeastValue, ArePrices, AreLeastValues}
use Rattle.leg_duals.specs.StopLegs.{stop_node, AreFirstLegsOf}
use Rattle.leg_duals.proofs.StopNodes.{stop_is_node}
use Rattle.leg_duals.proofs.RouteLengths.{way_costs}
use Rattle.leg_duals.proofs.StopRoutes.{price_is_least}
use Rattle.leg_duals.proofs.PlaceValues.{AreWaysPriced, IsAsked, nothing, by_itself, to_hub, from_hub, to_earlier, from_earlier, IsLeastAsked, values_of_minimal}
use Rattle.pareto_cuts.specs.Separations.{SetSeparation, IsSeparation}
use Rattle.pareto_cuts.specs.UnitCosts.{AreDualsFrom}
use Rattle.pareto_cuts.proofs.Columns.{minimal_of}

-- what an origin's duals are worked out of
pub record IsWorkedOut (s : SetSeparation) (i : ℕ) (first prices values : List ℕ) : Type 0 where
  pub separation : IsSeparation s
  pub any_length : s.problem.longest ≡ None
  pub from : i < s.problem.size
  pub legs_from : AreFirstLegsOf s.problem s.hubs s.order i first
  pub are_prices : ArePrices s.legs first prices
  pub are_values : AreLeastValues s.legs first prices values

-- any way is near enough
abbrev Any : ℕ → ℕ → Type 0
Any k m = Unit {0}

stop_node_of : (s : SetSeparation) (k : ℕ) → IsSeparation s → k < length s.order + length s.hubs → stop_node s.hubs s.order k < s.problem.size
stop_node_of s k is l =
    stop_is_node s.problem.size s.hubs s.order k (hubs_are_nodes s.problem s.hubs is.problem.limits is.set)
    (order_nodes s.problem s.hubs s.order is.problem is.order) l

priced_at : (s : SetSeparation) (i j : ℕ) (first : List ℕ) → IsSeparation s → s.problem.longest ≡ None → AreFirstLegsOf s.problem s.hubs s.order i first
    → j < s.legs.size
    → AreWaysPriced s.problem s.hubs s.order (i, s.start + j) (flow s.problem i (s.start + j)) Any (λ k m. way s.legs first k m j)
priced_at s i j first is any firsts below = record {
  cost = λ k m l n. way_costs s.problem s.hubs s.order s.start i j k m s.legs first is.legs firsts (omega (arith, l, is.legs.places, is.legs.hubs_too))
      (omega (arith, n, is.legs.places, is.legs.hubs_too)) below;
  near_allowed = λ k m l n near. any_allowed s.problem (i, s.start + j) (stop_node s.hubs s.order k) (stop_node s.hubs s.order m) any;
  allowed_near = λ k m l n allowed. tt;
}

-- the way by a place alone is the way by it twice
alone_twice : (s : SetSeparation) (first : List ℕ) (t j : ℕ) → IsSeparation s → t < length s.order → alone s.legs first t j ≡ way s.legs first t t j
alone_twice s first t j is place =
    let stop : t < stops s.legs = omega (arith, place, is.legs.places) in
    let itself = is.problem.distance_to_itself (stop_node s.hubs s.order t) (stop_node_of s t is (omega (arith, place))) in
    let none = is.legs.trunk t t stop stop ∙ ap (λ (d : ℕ). s.problem.trunk * d) itself in
    omega (arith, none)

-- the least values over the legs are the least that meet what the ways ask
least_asked : (s : SetSeparation) (first : List ℕ) (a t j v : ℕ) (values : ℕ → ℕ) → IsSeparation s → t < length s.order
    → IsLeastValue s.legs first a values t j v → IsLeastAsked s.hubs s.order Any (λ k m. way s.legs first k m j) a values t v
least_asked s first a t j v values is place least = record {
  itself = λ near. omega (arith, least.itself, alone_twice s first t j is place);
  to_hubs = λ m hub near. least.to_hubs m (omega (arith, hub.0, is.legs.places), omega (arith, hub.1, is.legs.places, is.legs.hubs_too));
  from_hubs = λ m hub near. least.from_hubs m (omega (arith, hub.0, is.legs.places), omega (arith, hub.1, is.legs.places, is.legs.hubs_too));
  to_places = λ m early near. least.to_places m early;
  from_places = λ m early near. least.from_places m early;
  is = asked least.is;
}
  where
    asked : IsAskedOf s.legs first a values t j v → IsAsked s.hubs s.order Any (λ k m. way s.legs first k m j) a values t v
    asked (asked_nothing e) = nothing e
    asked (asked_by_itself e) = by_itself tt (omega (arith, e, alone_twice s first t j is place))
    asked (asked_to_hub m hub e) = to_hub m (omega (arith, hub.0, is.legs.places), omega (arith, hub.1, is.legs.places, is.legs.hubs_too)) tt e
    asked (asked_from_hub m hub e) = from_hub m (omega (arith, hub.0, is.legs.places), omega (arith, hub.1, is.legs.places, is.legs.hubs_too)) tt e
    asked (asked_to_earlier m early e) = to_earlier m early tt e
    asked (asked_from_earlier m early e) = from_earlier m early tt e

price_at : (s : SetSeparation) (i j : ℕ) (first prices values : List ℕ) → IsWorkedOut s i first prices values → j < s.legs.size
    → flow s.problem i (s.start + j) * slice_index prices j ≡ (minimal_dual s.problem s.hubs s.order (i, s.start + j)).a
price_at s i j first prices values is below =
    price_same s.problem s.hubs (i, s.start + j) _ _
    (price_is_least s.problem s.hubs s.order s.start i j (slice_index prices j) s.legs first is.separation.problem is.any_length is.separation.set
    is.separation.legs is.legs_from below (is.are_prices.each j below))
    (minimal_of s i j is.separation is.from below).price

pub duals_from : (s : SetSeparation) (i : ℕ) (first prices values : List ℕ) → IsWorkedOut s i first prices values → AreDualsFrom s i prices values
duals_from s i first prices values is = record {
  prices_long = is.are_prices.long;
  values_long = is.are_values.long ∙ ap (λ c. c * s.legs.size) is.separation.legs.places;
  price = λ j below. price_at s i j first prices values is below;
  value = λ t j within below.
      values_of_minimal s.problem s.hubs s.order (i, s.start + j) (flow s.problem i (s.start + j)) Any (λ k m. way s.legs first k m j) (slice_index prices j)
      (λ m. cell s.legs.size values m j) (minimal_dual s.problem s.hubs s.order (i, s.start + j))
      (priced_at s i j first is.separation is.any_length is.legs_from below) (minimal_of s i j is.separation is.from below)
      (price_at s i j first prices values is below)
      (λ m w. least_asked s first (slice_index prices j) m j (cell s.legs.size values m j) (λ e. cell s.legs.size values e j) is.separation w
      (is.are_values.each m j (omega (arith, w, is.separation.legs.places)) below)) t within;
}
