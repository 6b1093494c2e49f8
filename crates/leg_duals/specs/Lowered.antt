-- Numbers lowered to the lengths of ways. A set of ways is seen as the lengths v that it has for each destination j.
use Rattle.std.specs.Prelude.{◌≡◌, ◌≢◌, ℕ, ◌<◌, ◌≤◌, ◌⊎◌, List, length, slice_index}
use Rattle.leg_duals.specs.Ways.{WaysFrom, IsHub, stop_count, base, away}

-- the numbers of the first n destinations are lowered to the least of the lengths
pub record IsLowered (n : ℕ) (lengths : ℕ → ℕ → Type 0) (old new : ℕ → ℕ) : Type 0 where
  pub below : (j : ℕ) → j < n → new j ≤ old j
  pub met : (j v : ℕ) → j < n → lengths j v → new j ≤ v
  pub is : (j : ℕ) → j < n → (new j ≡ old j) ⊎ lengths j (new j)

-- the lengths of the first `count` of some sets of ways
abbrev pub AnyOf : ℕ → (ℕ → ℕ → ℕ → Type 0) → ℕ → ℕ → Type 0
AnyOf count lengths j v = (y : ℕ) × (y < count) × lengths y j v

-- they are lowered to the lengths of the first `count` of some sets of ways, but for those that are spared
pub record AreLowered (n count : ℕ) (spared : ℕ → Type 0) (lengths : ℕ → ℕ → ℕ → Type 0) (old new : ℕ → ℕ) : Type 0 where
  pub below : (j : ℕ) → j < n → new j ≤ old j
  pub met : (y : ℕ) → y < count → spared y ⊎ ((j v : ℕ) → j < n → lengths y j v → new j ≤ v)
  pub is : (j : ℕ) → j < n → (new j ≡ old j) ⊎ AnyOf count lengths j (new j)

-- lowered to the lengths of a set, or left as they are where it is spared
abbrev pub IsLoweredOrSpared : ℕ → Type 0 → (ℕ → ℕ → Type 0) → List ℕ → List ℕ → Type 0
IsLoweredOrSpared n spared lengths old new = (spared × (new ≡ old)) ⊎ IsLowered n lengths (slice_index old) (slice_index new)

-- ---- by which stop each stop is reached

-- for each stop m: a hub or the stop itself as the first one of a way to it, and how long and how far that way is
pub record ReachParts : Type 0 where
  pub room : ℕ
  pub by : List ℕ
  pub bases : List ℕ
  pub aways : List ℕ

-- the stop m is reached by a hub, or by itself
pub record IsReached (w : WaysFrom) (m by base_by away_by : ℕ) : Type 0 where
  pub hub_or_itself : IsHub w by ⊎ (by ≡ m)
  pub base_is : base_by ≡ base w by m
  pub away_is : away_by ≡ away w by m

-- each stop is reached so
pub record AreReached (w : WaysFrom) (r : ReachParts) : Type 0 where
  pub by_long : length r.by ≡ stop_count w
  pub bases_long : length r.bases ≡ stop_count w
  pub aways_long : length r.aways ≡ stop_count w
  pub each : (m : ℕ) → m < stop_count w → IsReached w m (slice_index r.by m) (slice_index r.bases m) (slice_index r.aways m)

-- the way by k to m is no shorter and no nearer than that by which m is reached, and is another
pub record IsSpared (w : WaysFrom) (r : ReachParts) (k m : ℕ) : Type 0 where
  pub apart : slice_index r.by m ≢ k
  pub shorter : base w (slice_index r.by m) m ≤ base w k m
  pub nearer : away w (slice_index r.by m) m ≤ away w k m
