-- Lengths of ways, times the flow.
use Rattle.std.proofs.Common.{◌≡◌, ℕ, ◌+◌, ◌*◌, ◌<◌, List, slice_index, Contains, ap, ap₂, subst, arith}
use Rattle.hub_spec.specs.Problem.{Problem, flow, distance, route_cost}
use Rattle.unit_duals.specs.Lengths.{UnitLegs, IsHub, stops, alone}
use Rattle.leg_duals.specs.StopLegs.{stop_node, AreLegsOf, AreFirstLegsOf}
use Rattle.leg_duals.specs.Theorems.{IsHubStop, HubStopsAreHubs, WaysCostRoutes, AloneCostsRoute}
use Rattle.leg_duals.proofs.StopNodes.{hub_place, place_hub}

-- ---- stops and hubs

pub hub_stop : (p : Problem) (hubs order : List ℕ) (start h : ℕ) (l : UnitLegs) → AreLegsOf p hubs order start l → Contains hubs h
    → IsHubStop l hubs order h
hub_stop p hubs order start h l legs is_in =
    let m = hub_place hubs order h is_in in
    (m.0, (omega (arith, legs.places, m.1.0), omega (arith, legs.places, legs.hubs_too, m.1.1)), m.2)

pub stop_hub : (p : Problem) (hubs order : List ℕ) (start k : ℕ) (l : UnitLegs) → AreLegsOf p hubs order start l → IsHub l k
    → Contains hubs (stop_node hubs order k)
stop_hub p hubs order start k l legs hub =
    place_hub hubs order k (omega (arith, legs.places, hub.0), omega (arith, legs.places, legs.hubs_too, hub.1))

pub hub_stops : HubStopsAreHubs
hub_stops p hubs order start h l legs =
    (hub_stop p hubs order start h l legs, λ s. subst (Contains hubs) s.2 (stop_hub p hubs order start s.0 l legs s.1))

-- ---- lengths and costs

first_leg : (p : Problem) (hubs order : List ℕ) (start i k : ℕ) (l : UnitLegs) (first : List ℕ) → AreLegsOf p hubs order start l
    → AreFirstLegsOf p hubs order i first → k < stops l → slice_index first k ≡ p.collect * distance p i (stop_node hubs order k)
first_leg p hubs order start i k l first legs from stop = from.each k (omega (arith, stop, from.long, legs.places, legs.hubs_too))

pub way_costs : WaysCostRoutes
unfolding route_cost
way_costs p hubs order start i j k m l first legs from stop other column =
    let there = first_leg p hubs order start i k l first legs from stop in
    let on = legs.trunk k m stop other in
    let to = legs.last m j other column in
    ap (λ (x : ℕ). flow p i (start + j) * x) (ap₂ (λ (a b : ℕ). a + b) (ap₂ (λ (a b : ℕ). a + b) there on) to)

pub alone_costs : AloneCostsRoute
unfolding route_cost
alone_costs p hubs order start i j k l first ok legs from stop column node =
    let there = first_leg p hubs order start i k l first legs from stop in
    let to = legs.last k j stop column in
    let none : p.trunk * distance p (stop_node hubs order k) (stop_node hubs order k) ≡ 0 =
    rw (ok.distance_to_itself (stop_node hubs order k) node) (omega arith) in
    let unit : alone l first k j ≡ p.collect * distance p i (stop_node hubs order k)
    + p.trunk * distance p (stop_node hubs order k) (stop_node hubs order k) + p.deliver * distance p (stop_node hubs order k) (start + j) =
    omega (arith, there, to, none) in
    ap (λ (x : ℕ). flow p i (start + j) * x) unit
