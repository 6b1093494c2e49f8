-- What each row of a table says of the rows of the first table.
use Rattle.std.specs.Prelude.{◌≡◌, ℕ, ◌+◌, ◌<◌, List, [], ◌∷◌, ◌++◌, length, drop, slice_index_or, ℤ, pos}
use Rattle.frac_rows.specs.Rows.{number, right_side}
use Rattle.frac_rows.specs.Stored.{dot}

-- The row is a sum of the first rows, each taken as often as the row's number of its slack says, and the objective row
-- as often as its number of v says: so its numbers of the variables and its right side follow from these.
pub record IsCombined (columns : List (List ℤ)) (rights row : List ℤ) : Type 0 where
  pub long : length row ≡ length columns + (length rights + 2)
  pub variables : (j : ℕ) → j < length columns → number row j ≡ dot (drop (length columns) row) (slice_index_or columns j [])
  pub right : right_side row ≡ dot (drop (length columns) row) (rights ++ pos 0 ∷ [])
