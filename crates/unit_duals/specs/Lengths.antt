-- The legs of routes, and the lengths that they make up, by unit of flow.
use Rattle.std.specs.Prelude.{◌≡◌, ℕ, ◌+◌, ◌*◌, ◌<◌, ◌≤◌, List, [], length, slice_index, All}
use Rattle.unit_duals.specs.Limits.{most_leg, most_room}
use Rattle.unit_duals.specs.Cells.{cell}

-- the legs from stop to stop and from stop to destination, row by row; stops are the places of an order, then the hubs
pub record UnitLegs : Type 0 where
  -- the number of destinations
  pub size : ℕ
  -- the number of places
  pub count : ℕ
  -- the number of hubs
  pub hubs : ℕ
  pub trunk : List ℕ
  pub last : List ℕ

-- the number of stops
abbrev pub stops : UnitLegs → ℕ
stops l = l.count + l.hubs

-- the stop m is a hub
abbrev pub IsHub : UnitLegs → ℕ → Type 0
IsHub l m = (l.count ≤ m) × (m < stops l)

-- the leg from the stop k to the stop m
abbrev pub trunk_leg : UnitLegs → ℕ → ℕ → ℕ
trunk_leg l k m = cell (stops l) l.trunk k m

-- the leg from the stop m to the destination j
abbrev pub last_leg : UnitLegs → ℕ → ℕ → ℕ
last_leg l m j = cell l.size l.last m j

-- no stop and no destination
abbrev pub no_legs : UnitLegs
no_legs = record { size = 0; count = 0; hubs = 0; trunk = []; last = [] }

-- legs within room for so many destinations and so many stops
pub record RoomedLegs : Type 0 where
  pub room : ℕ
  pub legs : UnitLegs

-- each leg is there and within its limit, and so are their numbers
pub record AreLegs (l : UnitLegs) : Type 0 where
  pub size_limit : l.size ≤ most_room
  pub stop_limit : stops l ≤ most_room
  pub trunk_long : length l.trunk ≡ stops l * stops l
  pub last_long : length l.last ≡ stops l * l.size
  pub trunk_limit : All (λ d. d ≤ most_leg) l.trunk
  pub last_limit : All (λ d. d ≤ most_leg) l.last

-- a row of n legs
pub record IsLegRow (n : ℕ) (leg : ℕ → ℕ) (row : List ℕ) : Type 0 where
  pub long : length row ≡ n
  pub each : (j : ℕ) → j < n → slice_index row j ≡ leg j
  pub limit : All (λ d. d ≤ most_leg) row

-- the legs from an origin to the stops, one for each
pub record AreFirstLegs (l : UnitLegs) (first : List ℕ) : Type 0 where
  pub long : length first ≡ stops l
  pub limit : All (λ d. d ≤ most_leg) first

-- the length from the origin of these first legs by the stop k alone to j
abbrev pub alone : UnitLegs → List ℕ → ℕ → ℕ → ℕ
alone l first k j = slice_index first k + last_leg l k j

-- the length by the stop k first and m last
abbrev pub way : UnitLegs → List ℕ → ℕ → ℕ → ℕ → ℕ
way l first k m j = slice_index first k + trunk_leg l k m + last_leg l m j
