-- What the lengths of ways between stops are in the instance that the legs are of.
use Rattle.std.specs.Prelude.{◌≡◌, ℕ, ◌+◌, ◌*◌, ◌<◌, ◌≤◌, ◌↔◌, List, slice_index, Contains, None}
use Rattle.hub_spec.specs.Problem.{Problem, IsProblem, flow, route_cost}
use Rattle.hub_spec.specs.Edges.{IsLeastCost}
use Rattle.hub_spec.specs.Plans.{IsHubSet, IsLeastRoute}
use Rattle.unit_duals.specs.Lengths.{UnitLegs, IsHub, stops, alone, way}
use Rattle.unit_duals.specs.LeastValues.{IsPrice}
use Rattle.unit_duals.specs.Hops.{IsFirstRoute}
use Rattle.leg_duals.specs.StopLegs.{stop_node, AreLegsOf, AreFirstLegsOf}

-- some stop that is a hub stands for the node h
abbrev pub IsHubStop : UnitLegs → List ℕ → List ℕ → ℕ → Type 0
IsHubStop l hubs order h = (k : ℕ) × IsHub l k × (stop_node hubs order k ≡ h)

-- the stops that are hubs stand for just the hubs
abbrev pub HubStopsAreHubs : Type 0
HubStopsAreHubs = (p : Problem) (hubs order : List ℕ) (start h : ℕ) (l : UnitLegs)
    → AreLegsOf p hubs order start l → Contains hubs h ↔ IsHubStop l hubs order h

-- the flow times the length of a way by two stops is what the route by their nodes costs
abbrev pub WaysCostRoutes : Type 0
WaysCostRoutes = (p : Problem) (hubs order : List ℕ) (start i j k m : ℕ) (l : UnitLegs) (first : List ℕ)
    → AreLegsOf p hubs order start l → AreFirstLegsOf p hubs order i first → k < stops l → m < stops l → j < l.size
    → flow p i (start + j) * way l first k m j
    ≡ route_cost p i (start + j) (stop_node hubs order k) (stop_node hubs order m)

-- .. and so is that of the way by one stop alone
abbrev pub AloneCostsRoute : Type 0
AloneCostsRoute = (p : Problem) (hubs order : List ℕ) (start i j k : ℕ) (l : UnitLegs) (first : List ℕ)
    → IsProblem p → AreLegsOf p hubs order start l → AreFirstLegsOf p hubs order i first → k < stops l → j < l.size
    → stop_node hubs order k < p.size
    → flow p i (start + j) * alone l first k j
    ≡ route_cost p i (start + j) (stop_node hubs order k) (stop_node hubs order k)

-- where no length is limited, the flow times the price is the least cost by the hubs
abbrev pub PriceIsLeastCost : Type 0
PriceIsLeastCost = (p : Problem) (hubs order : List ℕ) (start i j a : ℕ) (l : UnitLegs) (first : List ℕ)
    → IsProblem p → p.longest ≡ None → IsHubSet p hubs → AreLegsOf p hubs order start l → AreFirstLegsOf p hubs order i first → j < l.size
    → IsPrice l first j a
    → IsLeastCost p hubs (i, start + j) (flow p i (start + j) * a)

-- where no length is limited and there is flow, the first of the shortest ways by hubs is the least route
abbrev pub FirstRouteIsLeast : Type 0
FirstRouteIsLeast = (p : Problem) (hubs order : List ℕ) (start i j k m : ℕ) (l : UnitLegs) (first : List ℕ)
    → p.longest ≡ None → IsHubSet p hubs → AreLegsOf p hubs order start l → AreFirstLegsOf p hubs order i first → j < l.size
    → 1 ≤ flow p i (start + j)
    → IsFirstRoute l first j k m → IsLeastRoute p hubs (i, start + j) (stop_node hubs order k, stop_node hubs order m)

-- where there is none, all routes cost nothing, and the first hub twice is the least
abbrev pub FirstHubServesNoFlow : Type 0
FirstHubServesNoFlow = (p : Problem) (hubs : List ℕ) (i j : ℕ) → IsHubSet p hubs → flow p i j ≡ 0
    → IsLeastRoute p hubs (i, j) (slice_index hubs 0, slice_index hubs 0)
