-- The legs of an instance's routes by unit of flow, between the stops of an order and a hub set.
use Rattle.std.specs.Prelude.{◌≡◌, ℕ, ◌+◌, ◌*◌, ◌<◌, ◌≤◌, List, ◌++◌, length, slice_index, All}
use Rattle.hub_spec.specs.Problem.{Problem, distance}
use Rattle.unit_duals.specs.Limits.{most_leg}
use Rattle.unit_duals.specs.Lengths.{UnitLegs, AreLegs, stops, trunk_leg, last_leg}

-- the node of a stop: the places of the order come first, and then the hubs
abbrev pub stop_node : List ℕ → List ℕ → ℕ → ℕ
stop_node hubs order k = slice_index (order ++ hubs) k

-- the legs between these stops and from them to the destinations from `start` on, by unit of flow
pub record AreLegsOf (p : Problem) (hubs order : List ℕ) (start : ℕ) (l : UnitLegs) : Type 0 where
  pub legs : AreLegs l
  pub places : l.count ≡ length order
  pub hubs_too : l.hubs ≡ length hubs
  pub destinations : start + l.size ≤ p.size
  pub trunk : (k m : ℕ) → k < stops l → m < stops l
      → trunk_leg l k m ≡ p.trunk * distance p (stop_node hubs order k) (stop_node hubs order m)
  pub last : (k j : ℕ) → k < stops l → j < l.size
      → last_leg l k j ≡ p.deliver * distance p (stop_node hubs order k) (start + j)

-- the legs from the origin to the stops, by unit of flow
pub record AreFirstLegsOf (p : Problem) (hubs order : List ℕ) (i : ℕ) (first : List ℕ) : Type 0 where
  pub long : length first ≡ length order + length hubs
  pub limit : All (λ d. d ≤ most_leg) first
  pub each : (k : ℕ) → k < length first → slice_index first k ≡ p.collect * distance p i (stop_node hubs order k)

-- the legs from one origin, within room for so many stops
pub record RoomedFirst : Type 0 where
  pub room : ℕ
  pub items : List ℕ
