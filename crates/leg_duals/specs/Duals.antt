-- The duals of one origin's commodities by unit of flow, over the ways that are not too far.
use Rattle.std.specs.Prelude.{◌≡◌, ℕ, ◌-◌, ◌*◌, ◌<◌, List, length, slice_index}
use Rattle.unit_duals.specs.Cells.{cell}
use Rattle.leg_duals.specs.Ways.{WaysFrom, IsHub, IsWay, IsWayBeside, no_way}
use Rattle.leg_duals.specs.Lowered.{IsLowered}

-- v is the length of a way by hubs
abbrev pub IsHubWay : WaysFrom → ℕ → ℕ → Type 0
IsHubWay w j v = (k : ℕ) × (m : ℕ) × IsHub w k × IsHub w m × IsWay w k m j v

-- v is the length of a way by the place t: alone, with a hub, or with an earlier place, which has its value beside it
pub data IsPlaceWay (w : WaysFrom) (values : ℕ → ℕ → ℕ) (t j v : ℕ) : Type 0 where
  alone : IsWay w t t j v → IsPlaceWay w values t j v
  to_hub : (m : ℕ) → IsHub w m → IsWay w t m j v → IsPlaceWay w values t j v
  from_hub : (m : ℕ) → IsHub w m → IsWay w m t j v → IsPlaceWay w values t j v
  to_earlier : (e : ℕ) → e < t → IsWayBeside w (values e) t e j v → IsPlaceWay w values t j v
  from_earlier : (e : ℕ) → e < t → IsWayBeside w (values e) e t j v → IsPlaceWay w values t j v

-- the prices are the least lengths by hubs
abbrev pub ArePrices : WaysFrom → List ℕ → Type 0
ArePrices w prices = IsLowered w.size (IsHubWay w) (λ _. no_way) (slice_index prices)

-- the values of the place t are what the price is above the least length by it
pub record AreValues (w : WaysFrom) (prices : List ℕ) (values : ℕ → ℕ → ℕ) (t : ℕ) : Type 0 where
  pub least : ℕ → ℕ
  pub lowered : IsLowered w.size (IsPlaceWay w values t) (slice_index prices) least
  pub value : (j : ℕ) → j < w.size → values t j ≡ slice_index prices j - least j

-- a price for each destination, and a row of values for each place
pub record AreDuals (w : WaysFrom) (prices values : List ℕ) : Type 0 where
  pub prices_long : length prices ≡ w.size
  pub values_long : length values ≡ length w.order * w.size
  pub are_prices : ArePrices w prices
  pub are_values : (t : ℕ) → t < length w.order → AreValues w prices (cell w.size values) t
