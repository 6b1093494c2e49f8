-- Flat tables, row by row: row t of a table with n columns stands from t * n on.
use Rattle.std.specs.Prelude.{ℕ, ◌+◌, ◌*◌, ◌<◌, List, slice_index}

-- the cell of row t and column j
abbrev pub cell : ℕ → List ℕ → ℕ → ℕ → ℕ
cell n table t j = slice_index table (t * n + j)

-- the first z cells are as R says
pub record IsTable (n : ℕ) (R : ℕ → ℕ → ℕ → Type 0) (table : List ℕ) (z : ℕ) : Type 0 where
  pub each : (t j : ℕ) → j < n → t * n + j < z → R t j (cell n table t j)
