-- The least lengths of routes by hubs, by unit of flow, for the cost of a hub set.
use Rattle.std.specs.Prelude.{◌≡◌, ℕ, ◌+◌, ◌*◌, ◌<◌, List, length, slice_index}
use Rattle.hub_spec.specs.Problem.{Problem, distance}
use Rattle.unit_duals.specs.Leasts.{least_of}

-- the length from i by the hub number x to the hub m
abbrev pub reach_by : Problem → List ℕ → ℕ → ℕ → ℕ → ℕ
reach_by p hubs i m x = p.collect * distance p i (slice_index hubs x) + p.trunk * distance p (slice_index hubs x) m

-- the least of them
unfoldable pub least_reach : Problem → List ℕ → ℕ → ℕ → ℕ
least_reach p hubs i m = least_of (reach_by p hubs i m 0) (reach_by p hubs i m) (length hubs)

-- the least length from i to j by the hub number y as the last one
abbrev pub length_by : Problem → List ℕ → ℕ → ℕ → ℕ → ℕ
length_by p hubs i j y = least_reach p hubs i (slice_index hubs y) + p.deliver * distance p (slice_index hubs y) j

-- the least length from i to j
unfoldable pub least_length : Problem → List ℕ → ℕ → ℕ → ℕ
least_length p hubs i j = least_of (length_by p hubs i j 0) (length_by p hubs i j) (length hubs)

-- for each hub by its number the least length from i to it
pub record AreReaches (p : Problem) (hubs : List ℕ) (i : ℕ) (reaches : List ℕ) : Type 0 where
  pub each : (y : ℕ) → y < length hubs → slice_index reaches y ≡ least_reach p hubs i (slice_index hubs y)
