-- The rows of a table as they are kept, one after the other, and what a pivot writes of them. A row has a number
-- above 0 in a basic column of its own, or for the objective row in v's, and 0 in those of the others. So of each row
-- only the numbers of the columns outside the basis are kept, in the order in which these columns stand, its right
-- side, and its own number.
use Rattle.std.specs.Prelude.{◌≡◌, ◌≢◌, ℕ, ◌+◌, ◌*◌, ◌^◌, ◌<◌, ◌≤◌, ◌==◌, if◌then◌else◌, length, map, true, List, [], ◌∷◌, ◌++◌, slice_index, slice_set, ℤ, ◌<ℤ◌, pos}
use Rattle.std.specs.List.{range_with_len}
use Rattle.frac_rows.specs.Divisors.{divisor_of, reduced}
use Rattle.frac_rows.specs.Rows.{Table, number, eliminated, is_wide_row, AreNarrow}
use Rattle.frac_rows.specs.Stored.{piece}
use Rattle.plain_rows.specs.declared.pivots.FoldedPivot.{FoldedPivot}

-- ---- a kept row, and the whole one

-- the number in the column k of a row that is kept so, whose own column is `owner`
abbrev pub spread_number : List ℕ → List ℤ → ℕ → ℕ → ℤ
spread_number [] [] owner k = pos 0
spread_number [] (right ∷ []) owner k = pos 0
spread_number [] (right ∷ own ∷ rest) owner k = if k == owner then own else pos 0
spread_number (o ∷ outside) [] owner k = pos 0
spread_number (o ∷ outside) (x ∷ row) owner k = if k == o then x else spread_number outside row owner k

-- the whole row, of which v has the column n
unfoldable pub spread : List ℕ → ℕ → ℕ → List ℤ → List ℤ
spread outside owner n row =
    map (spread_number outside row owner) (range_with_len 0 (n + 1)) ++ number row (length outside) ∷ []

-- the own columns of all rows
abbrev pub owners : ℕ → List ℕ → List ℕ
owners n basis = basis ++ n ∷ []

-- ---- tables

-- the column of v
abbrev pub v_of : List ℕ → List ℕ → ℕ
v_of outside basis = length outside + length basis

-- how many numbers of a row are kept
abbrev pub width_of : List ℕ → ℕ
width_of outside = length outside + 2

-- the whole row i
abbrev pub whole_row : List ℕ → List ℤ → List ℕ → ℕ → List ℤ
whole_row outside numbers basis i =
    spread outside (slice_index (owners (v_of outside basis) basis) i) (v_of outside basis) (piece (width_of outside) numbers i)

unfoldable pub table_of : List ℕ → List ℤ → List ℕ → Table
table_of outside numbers basis = record {
  rows = map (whole_row outside numbers basis) (range_with_len 0 (length basis + 1));
  basis = basis;
}

-- no number of the row is too great, and its numbers have no common divisor but 1; that of a row of zeros is 0
pub record IsReduced (row : List ℤ) : Type 0 where
  pub narrow : AreNarrow row
  pub one : divisor_of row ≤ 1

-- there are numbers for so many rows, and each row is such a one
pub record AreRows (width height : ℕ) (numbers : List ℤ) : Type 0 where
  pub long : length numbers ≡ height * width
  pub each : (i : ℕ) → i < height → IsReduced (piece width numbers i)

-- all columns up to n stand in one of the lists alone, once
pub record AreApart (n : ℕ) (outside own : List ℕ) : Type 0 where
  pub outside_low : (a : ℕ) → a < length outside → slice_index outside a < n
  pub own_low : (i : ℕ) → i < length own → slice_index own i ≤ n
  pub once : (a b : ℕ) → a < length outside → b < length outside → slice_index outside a ≡ slice_index outside b → a ≡ b
  pub own_once : (i j : ℕ) → i < length own → j < length own → slice_index own i ≡ slice_index own j → i ≡ j
  pub apart : (a i : ℕ) → a < length outside → i < length own → slice_index outside a ≢ slice_index own i

-- the columns of a row whose own one is `owner`, up to n
pub record IsSpread (outside : List ℕ) (owner n : ℕ) : Type 0 where
  pub low : (a : ℕ) → a < length outside → slice_index outside a < n
  pub own_low : owner ≤ n
  pub once : (a b : ℕ) → a < length outside → b < length outside → slice_index outside a ≡ slice_index outside b → a ≡ b
  pub apart : (a : ℕ) → a < length outside → slice_index outside a ≢ owner

-- the rows of a table, whose places all fit 32 bits
pub record IsStored (outside : List ℕ) (numbers : List ℤ) (basis : List ℕ) : Type 0 where
  pub rows : AreRows (width_of outside) (length basis + 1) numbers
  pub columns : AreApart (v_of outside basis) outside (owners (v_of outside basis) basis)
  pub few : v_of outside basis + 2 < 2 ^ 32

-- and room for the rows of the next table, and for one row
pub record IsRoomy (outside : List ℕ) (numbers spare base : List ℤ) (basis : List ℕ) : Type 0 where
  pub stored : IsStored outside numbers basis
  pub room : length spare ≡ length numbers
  pub one_row : length base ≡ width_of outside

-- ---- before the first pivot

-- the first n rows have the numbers of the variables as they are given, their right side, and 1 for their own column
pub record AreFirst (variables : ℕ) (given rights : List ℤ) (n : ℕ) (numbers : List ℤ) : Type 0 where
  pub each : (i : ℕ) → i < n → piece (variables + 2) numbers i ≡ piece variables given i ++ number rights i ∷ pos 1 ∷ []

-- ---- after a pivot

-- what is taken from the other rows: the own column of the row moves to the place c, and no longer is its own
abbrev pub base_of : ℕ → List ℤ → ℕ → List ℤ
base_of width row c = slice_set (slice_set row c (number row (width + 1))) (width + 1) (pos 0)

-- the row that stays: its own column and the one that enters change places
abbrev pub stays_of : ℕ → List ℤ → ℕ → List ℤ
stays_of width row c = slice_set (slice_set row c (number row (width + 1))) (width + 1) (number row c)

-- a row that others are taken from, with nothing of its own at the place c
abbrev pub cleared : ℕ → List ℤ → List ℤ
cleared c row = slice_set row c (pos 0)

-- what becomes of another row
abbrev pub follows_of : ℕ → List ℤ → ℕ → List ℤ → List ℤ
follows_of width base c row = reduced (eliminated (number base c) (cleared c row) (number row c) (base_of width base c))

-- a pivot is made on one of so many rows, at a place where it has a number above 0, and the base is what is taken
pub record IsPivot (outside height : ℕ) (numbers : List ℤ) (p : FoldedPivot) : Type 0 where
  pub row : p.row < height
  pub place : p.place < outside
  pub above : pos 0 <ℤ number (piece (outside + 2) numbers p.row) p.place
  pub base : p.base.now ≡ base_of outside (piece (outside + 2) numbers p.row) p.place

-- the row i after the pivot on the row r and the place c, of so many columns outside the basis
pub record IsAfter (outside : ℕ) (numbers : List ℤ) (r c i : ℕ) (new : List ℤ) : Type 0 where
  pub stays : i ≡ r → new ≡ stays_of outside (piece (outside + 2) numbers i) c
  pub follows : i ≢ r → new ≡ follows_of outside (piece (outside + 2) numbers r) c (piece (outside + 2) numbers i)
  pub kept : IsReduced new

-- the first n rows are those after the pivot
pub record AreAfter (outside : ℕ) (numbers : List ℤ) (r c n : ℕ) (new : List ℤ) : Type 0 where
  pub each : (i : ℕ) → i < n → IsAfter outside numbers r c i (piece (outside + 2) new i)

-- some row after the pivot has a number that is too great
pub record IsWideAfter (outside height : ℕ) (numbers : List ℤ) (r c : ℕ) : Type 0 where
  pub i : ℕ
  pub within : i < height
  pub other : i ≢ r
  pub wide : is_wide_row (follows_of outside (piece (outside + 2) numbers r) c (piece (outside + 2) numbers i)) ≡ true
