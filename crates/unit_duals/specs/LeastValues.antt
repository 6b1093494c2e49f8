-- The minimal duals of all commodities of one origin, by unit of flow: prices by the hubs, values of the places.
use Rattle.std.specs.Prelude.{◌≡◌, ℕ, ◌+◌, ◌*◌, ◌<◌, ◌≤◌, List, length, slice_index}
use Rattle.unit_duals.specs.Cells.{cell}
use Rattle.unit_duals.specs.Lengths.{UnitLegs, IsHub, alone, way}

-- a is just as long as some way to j by one hub or by two
pub data IsByHubs (l : UnitLegs) (first : List ℕ) (j a : ℕ) : Type 0 where
  by_one : (m : ℕ) → IsHub l m → a ≡ alone l first m j → IsByHubs l first j a
  by_two : (k m : ℕ) → IsHub l k → IsHub l m → a ≡ way l first k m j → IsByHubs l first j a

-- the price of j is the least length by hubs
pub record IsPrice (l : UnitLegs) (first : List ℕ) (j a : ℕ) : Type 0 where
  pub one : (m : ℕ) → IsHub l m → a ≤ alone l first m j
  pub two : (k m : ℕ) → IsHub l k → IsHub l m → a ≤ way l first k m j
  pub is : IsByHubs l first j a

-- a price for each destination
pub record ArePrices (l : UnitLegs) (first prices : List ℕ) : Type 0 where
  pub long : length prices ≡ l.size
  pub each : (j : ℕ) → j < l.size → IsPrice l first j (slice_index prices j)

-- where the price is a and the places have these values, v is nothing or just what some way by the place t asks
pub data IsAsked (l : UnitLegs) (first : List ℕ) (a : ℕ) (values : ℕ → ℕ) (t j v : ℕ) : Type 0 where
  nothing : v ≡ 0 → IsAsked l first a values t j v
  by_itself : v + alone l first t j ≡ a → IsAsked l first a values t j v
  to_hub : (m : ℕ) → IsHub l m → v + way l first t m j ≡ a → IsAsked l first a values t j v
  from_hub : (m : ℕ) → IsHub l m → v + way l first m t j ≡ a → IsAsked l first a values t j v
  to_earlier : (m : ℕ) → m < t → v + (way l first t m j + values m) ≡ a → IsAsked l first a values t j v
  from_earlier : (m : ℕ) → m < t → v + (way l first m t j + values m) ≡ a → IsAsked l first a values t j v

-- v is the least value of the place t: it meets all that the ways by t ask, with a hub or an earlier place, and no more
pub record IsLeastValue (l : UnitLegs) (first : List ℕ) (a : ℕ) (values : ℕ → ℕ) (t j v : ℕ) : Type 0 where
  pub itself : a ≤ v + alone l first t j
  pub to_hubs : (m : ℕ) → IsHub l m → a ≤ v + way l first t m j
  pub from_hubs : (m : ℕ) → IsHub l m → a ≤ v + way l first m t j
  pub to_places : (m : ℕ) → m < t → a ≤ v + (way l first t m j + values m)
  pub from_places : (m : ℕ) → m < t → a ≤ v + (way l first m t j + values m)
  pub is : IsAsked l first a values t j v

-- a row of values for each place, a value for each destination
pub record AreLeastValues (l : UnitLegs) (first prices values : List ℕ) : Type 0 where
  pub long : length values ≡ l.count * l.size
  pub each : (t j : ℕ) → t < l.count → j < l.size
      → IsLeastValue l first (slice_index prices j) (λ m. cell l.size values m j) t j (cell l.size values t j)

-- what is worked out of an origin: a price for each destination, and the values of the places row by row
pub record OriginDuals : Type 0 where
  -- the most destinations, and the most stops
  pub room : ℕ
  pub prices : List ℕ
  pub values : List ℕ
