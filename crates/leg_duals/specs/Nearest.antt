-- How far it is at least from an origin to the last hubs.
use Rattle.std.specs.Prelude.{◌≡◌, ℕ, ◌+◌, ◌*◌, ◌<◌, ◌≤◌, List, length, slice_index, Contains}
use Rattle.hub_spec.specs.Limits.{most_distance}
use Rattle.hub_spec.specs.Problem.{Problem, distance}

-- v is how far it is at least from i by one of the hubs to m
pub record IsNearest (p : Problem) (hubs : List ℕ) (i m v : ℕ) : Type 0 where
  pub reached : (k : ℕ) × Contains hubs k × (distance p i k + distance p k m ≡ v)
  pub least : (k : ℕ) → Contains hubs k → v ≤ distance p i k + distance p k m
  pub limit : v ≤ 2 * most_distance

-- for each hub by its number how far it is at least from i to it
pub record AreNearest (p : Problem) (hubs : List ℕ) (i : ℕ) (nearest : List ℕ) : Type 0 where
  pub each : (y : ℕ) → y < length hubs → IsNearest p hubs i (slice_index hubs y) (slice_index nearest y)
