-- Lengths lowered to the least by a hub.
use Rattle.std.specs.Prelude.{◌≡◌, ℕ, ◌+◌, ◌*◌, ◌<◌, ◌≤◌, min, List, length, slice_index, All}
use Rattle.unit_duals.specs.Limits.{most_leg, most_length}
use Rattle.unit_duals.specs.Cells.{cell}
use Rattle.unit_duals.specs.Leasts.{least_of}

-- the base of the stop m, and its row's leg to j
abbrev pub length_from : ℕ → List ℕ → List ℕ → ℕ → ℕ → ℕ
length_from n bases table m j = slice_index bases m + cell n table m j

-- each of the n numbers is lowered to the length from the stop m
pub record AreLoweredBy (n : ℕ) (bases table : List ℕ) (m : ℕ) (old new : List ℕ) : Type 0 where
  pub here : (j : ℕ) → j < n → slice_index new j ≡ min (slice_index old j) (length_from n bases table m j)

-- each is lowered to the least length from one of the hubs, which are the stops from `start` on
pub record AreLowered (n : ℕ) (bases table : List ℕ) (start hubs : ℕ) (old new : List ℕ) : Type 0 where
  pub here : (j : ℕ) → j < n
      → slice_index new j ≡ least_of (slice_index old j) (λ x. length_from n bases table (start + x) j) hubs

-- lowered further, each number ends at the same least
pub record EndAlike (n : ℕ) (bases table : List ℕ) (start hubs : ℕ) (old new : List ℕ) : Type 0 where
  pub here : (j : ℕ) → j < n
      → least_of (slice_index new j) (λ x. length_from n bases table (start + x) j) hubs
      ≡ least_of (slice_index old j) (λ x. length_from n bases table (start + x) j) hubs

-- a base for each stop and a row of n legs, within their limits
pub record AreRows (n : ℕ) (bases table : List ℕ) : Type 0 where
  pub rows : (m : ℕ) → m < length bases → m * n + n ≤ length table
  pub base_limit : All (λ d. d ≤ most_leg) bases
  pub leg_limit : (m j : ℕ) → m < length bases → j < n → cell n table m j ≤ most_length
