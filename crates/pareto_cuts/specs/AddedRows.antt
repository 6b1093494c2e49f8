-- What numbers by node become where each node of an order has something added to its own.
use Rattle.std.specs.Prelude.{◌≡◌, ◌≢◌, ℕ, ◌+◌, ◌*◌, ◌<◌, List, length, slice_index}
use Rattle.unit_duals.specs.Cells.{cell}
use Rattle.pareto_cuts.specs.Separations.{sum_of}

-- lengths, weighted by the flows
abbrev pub weighted_sum : List ℕ → (ℕ → ℕ) → ℕ
weighted_sum flows lengths = sum_of (length flows) (λ j. slice_index flows j * lengths j)

-- the row t of a table of lengths, weighted by the flows
abbrev pub row_sum : List ℕ → List ℕ → ℕ → ℕ
row_sum flows values t = weighted_sum flows (cell (length flows) values t)

-- the first t nodes of the order have these numbers added to their own, and the others have their own
pub record AreRowsAdded (order : List ℕ) (t : ℕ) (added : ℕ → ℕ) (old new : List ℕ) : Type 0 where
  pub here : (s : ℕ) → s < t → slice_index new (slice_index order s) ≡ slice_index old (slice_index order s) + added s
  pub others : (k : ℕ) → ((s : ℕ) → s < t → slice_index order s ≢ k) → slice_index new k ≡ slice_index old k
