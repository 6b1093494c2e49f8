-- The duals of one origin's commodities by unit of flow: the flow times them are the minimal duals.
use Rattle.std.specs.Prelude.{◌≡◌, ℕ, ◌+◌, ◌*◌, ◌<◌, List, length, slice_index}
use Rattle.hub_spec.specs.Problem.{Problem, flow}
use Rattle.hub_spec.specs.Cuts.{value_at}
use Rattle.hub_spec.specs.Separation.{minimal_dual}
use Rattle.unit_duals.specs.Cells.{cell}

-- The prices and values are those of minimal duals by unit of flow. The commodities are those from i to n
-- destinations from `start` on. The values are in rows, one for each candidate of the order.
pub record AreUnitDuals (p : Problem) (hubs order : List ℕ) (i start n : ℕ) (prices values : List ℕ) : Type 0 where
  pub prices_long : length prices ≡ n
  pub values_long : length values ≡ length order * n
  pub price : (j : ℕ) → j < n
      → flow p i (start + j) * slice_index prices j ≡ (minimal_dual p hubs order (i, start + j)).a
  pub value : (t j : ℕ) → t < length order → j < n
      → flow p i (start + j) * cell n values t j
      ≡ value_at (minimal_dual p hubs order (i, start + j)).u (slice_index order t)
