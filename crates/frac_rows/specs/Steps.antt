-- What the parts of a pivot say of the rows that are kept.
use Rattle.std.specs.Prelude.{◌≡◌, ◌≢◌, ℕ, ◌+◌, ◌<◌, ◌≤◌, length, Bool, true, List, ℤ, pos}
use Rattle.frac_rows.specs.Divisors.{reduced}
use Rattle.frac_rows.specs.Rows.{number, right_side, pivoted, is_wide_row, AreNarrow}
use Rattle.frac_rows.specs.Stored.{times, extended, Matrix, kept_row, whole_row}

-- the new numbers are within the limit, and each of them gives one of the row where it is multiplied by d
pub record IsDivided (d : ℕ) (row new : List ℤ) : Type 0 where
  pub whole : times (pos d) new ≡ row
  pub narrow : AreNarrow new

-- the same for some number that is not 0
abbrev pub IsDivision : List ℤ → List ℤ → Type 0
IsDivision row new = (d : ℕ) × (1 ≤ d) × IsDivided d row new

-- what the pivot on the column c of the base row makes of a whole row, of both of which only a part is kept
abbrev pub pivoted_whole : List (List ℤ) → List ℤ → ℕ → List ℤ → List ℤ
pivoted_whole columns base c row = pivoted (reduced (extended columns base)) c (reduced (extended columns row))

-- some number of the whole row, once it is reduced, is too great
abbrev pub is_wide_whole : List (List ℤ) → List ℤ → Bool
is_wide_whole columns row = is_wide_row (reduced (extended columns row))

-- by that pivot, what is kept as `row` becomes what is kept as `new`, and that is narrow
pub record Follows (columns : List (List ℤ)) (base : List ℤ) (c : ℕ) (row new : List ℤ) : Type 0 where
  pub next : reduced (extended columns new) ≡ pivoted_whole columns base c row
  pub narrow : AreNarrow (extended columns new)

-- what is kept of the row i after the pivot on the row r: that row stays, and the others follow
pub record IsAfter (m : Matrix) (numbers : List ℤ) (r c i : ℕ) (new : List ℤ) : Type 0 where
  pub stays : i ≡ r → new ≡ kept_row m numbers i
  pub follows : i ≢ r → Follows m.columns (kept_row m numbers r) c (kept_row m numbers i) new

-- the first n rows are those after the pivot
pub record AreAfter (m : Matrix) (numbers : List ℤ) (r c n : ℕ) (new : List ℤ) : Type 0 where
  pub each : (i : ℕ) → i < n → IsAfter m numbers r c i (kept_row m new i)

-- some row after the pivot has a number that is too great
pub record IsWideAfter (m : Matrix) (numbers : List ℤ) (r c : ℕ) : Type 0 where
  pub i : ℕ
  pub within : i < m.height
  pub other : i ≢ r
  pub wide : is_wide_row (pivoted_whole m.columns (kept_row m numbers r) c (kept_row m numbers i)) ≡ true

-- the numbers of all rows in the column c
pub record AreEntering (m : Matrix) (numbers : List ℤ) (c : ℕ) (entering : List ℤ) : Type 0 where
  pub one_each : length entering ≡ m.height
  pub each : (i : ℕ) → i < m.height → number entering i ≡ number (whole_row m numbers i) c

-- the right side and the number in the column c of a constraint row
pub record IsCandidate (m : Matrix) (numbers : List ℤ) (c row : ℕ) (right in_column : ℤ) : Type 0 where
  pub constraint : row + 1 < m.height
  pub right_is : right ≡ right_side (whole_row m numbers row)
  pub number_is : in_column ≡ number (whole_row m numbers row) c
