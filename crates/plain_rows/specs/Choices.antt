-- Which column enters, by the numbers that are kept of the objective row.
use Rattle.std.specs.Prelude.{ℕ, ◌<◌, ◌≤◌, List, slice_index, Option, Some, None, ℤ, ◌<ℤ◌, ◌≤ℤ◌, pos}
use Rattle.frac_rows.specs.Rows.{number}

-- of the first n places the one whose column is the least with a number below 0
abbrev pub IsLeastBelow : List ℕ → List ℤ → ℕ → Option ℕ → Type 0
IsLeastBelow outside row n None = (a : ℕ) → a < n → pos 0 ≤ℤ number row a
IsLeastBelow outside row n (Some b) =
    (b < n) × (number row b <ℤ pos 0) × ((a : ℕ) → a < n → number row a <ℤ pos 0 → slice_index outside b ≤ slice_index outside a)
