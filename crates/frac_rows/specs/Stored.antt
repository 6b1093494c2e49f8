-- What the code keeps of a table, and what it stands for: of each row a multiple of its numbers behind the variables.
-- The numbers of the variables follow from these, since each is the same sum of multiples of its column's numbers.
use Rattle.std.specs.Prelude.{◌≡◌, ℕ, ◌+◌, ◌*◌, ◌^◌, ◌<◌, ◌≤◌, length, slice_index, List, [], ◌∷◌, ◌++◌, map, take, drop, ℤ, pos, ◌+ℤ◌, ◌*ℤ◌, unsigned_abs}
use Rattle.std.specs.List.{range_with_len, sum, All}
use Rattle.frac_rows.specs.Divisors.{reduced}
use Rattle.frac_rows.specs.Rows.{Table, number, AreNarrow}
use Rattle.frac_rows.specs.Starts.{own_numbers}

-- ---- rows

-- the sum of the products of two lists' numbers, as far as both go
abbrev pub dot : List ℤ → List ℤ → ℤ
dot [] ys = pos 0
dot (x ∷ xs) [] = pos 0
dot (x ∷ xs) (y ∷ ys) = x *ℤ y +ℤ dot xs ys

-- the most that this sum can be in size, where the numbers of the second list are at most the tops in size
abbrev pub reach : List ℤ → List ℕ → ℕ
reach [] tops = 0
reach (x ∷ xs) [] = 0
reach (x ∷ xs) (t ∷ tops) = unsigned_abs x * t + reach xs tops

-- each number of the row times m
abbrev pub times : ℤ → List ℤ → List ℤ
times m row = map (λ x. m *ℤ x) row

-- the row with the numbers of the variables, whose columns are given, before those that are kept
unfoldable pub extended : List (List ℤ) → List ℤ → List ℤ
extended columns row = map (dot row) columns ++ row

-- ---- lists that stand one after the other

-- the part i of parts with w numbers each
abbrev pub piece : ℕ → List ℤ → ℕ → List ℤ
piece w flat i = take w (drop (i * w) flat)

-- the first n parts
unfoldable pub pieces : ℕ → ℕ → List ℤ → List (List ℤ)
pieces w n flat = map (piece w flat) (range_with_len 0 n)

-- ---- columns whose numbers stand row by row

-- the column j of so many columns, whose rows stand one after the other
abbrev pub standing : List ℤ → ℕ → ℕ → ℕ → List ℤ
standing rows variables height j = map (λ k. number (piece variables rows k) j) (range_with_len 0 height)

-- all of these columns
unfoldable pub columns_of : ℕ → ℕ → List ℤ → List (List ℤ)
columns_of height variables rows = map (standing rows variables height) (range_with_len 0 variables)

-- ---- the columns of the variables

-- the columns of the variables, and how many numbers each of them has: one for each constraint, and the objective row's
pub record Matrix : Type 0 where
  pub height : ℕ
  pub columns : List (List ℤ)

-- there is an objective row, and the places of all columns fit 32 bits
pub record IsMatrix (m : Matrix) : Type 0 where
  pub some_row : 1 ≤ m.height
  pub few : length m.columns + m.height < 2 ^ 32

-- the column's numbers are at most the tops in size
abbrev pub IsUnder : List ℤ → List ℕ → Type 0
IsUnder column tops = (k : ℕ) → k < length tops → unsigned_abs (number column k) ≤ slice_index tops k

-- a top for each row, above its numbers in all columns, with a sum that leaves room for sums of products
pub record AreTops (height variables : ℕ) (numbers : List ℤ) (tops : List ℕ) : Type 0 where
  pub one_top_each : length tops ≡ height
  pub under : (j : ℕ) → j < variables → IsUnder (standing numbers variables height j) tops
  pub room : sum tops ≤ 2 ^ 64

-- the columns whose numbers stand row by row, and their tops
pub record AreColumns (height variables : ℕ) (numbers : List ℤ) (tops : List ℕ) : Type 0 where
  pub some_row : 1 ≤ height
  pub few : variables + height < 2 ^ 32
  pub long : length numbers ≡ height * variables
  pub topped : AreTops height variables numbers tops

-- ---- tables

-- what is kept of the row i
abbrev pub kept_row : Matrix → List ℤ → ℕ → List ℤ
kept_row m numbers i = piece (m.height + 1) numbers i

-- the whole row i, times some number
abbrev pub whole_row : Matrix → List ℤ → ℕ → List ℤ
whole_row m numbers i = extended m.columns (kept_row m numbers i)

-- the table that the kept numbers stand for
unfoldable pub table_of : Matrix → List ℤ → List ℕ → Table
table_of m numbers basis = record {
  rows = map (λ i. reduced (whole_row m numbers i)) (range_with_len 0 m.height);
  basis = basis;
}

-- there are numbers for each row, and no number of a whole row is too great
pub record AreKept (m : Matrix) (numbers : List ℤ) : Type 0 where
  pub long : length numbers ≡ m.height * (m.height + 1)
  pub narrow : (i : ℕ) → i < m.height → AreNarrow (whole_row m numbers i)

-- the same with a basic column for each constraint row, each of them before v
pub record IsStored (m : Matrix) (numbers : List ℤ) (basis : List ℕ) : Type 0 where
  pub kept : AreKept m numbers
  pub one_each : length basis + 1 ≡ m.height
  pub before_v : All (λ c. c + 1 < length m.columns + m.height) basis

-- the first n rows are those before the first pivot
pub record AreFirst (rights : List ℤ) (n : ℕ) (numbers : List ℤ) : Type 0 where
  pub each : (i : ℕ) → i < n → piece (length rights + 2) numbers i ≡ own_numbers rights i

-- and room for the numbers of the next table, and for those of all rows in the column that enters
pub record IsRoomy (m : Matrix) (numbers spare entering : List ℤ) (basis : List ℕ) : Type 0 where
  pub stored : IsStored m numbers basis
  pub room : length spare ≡ length numbers
  pub one_each : length entering ≡ m.height
