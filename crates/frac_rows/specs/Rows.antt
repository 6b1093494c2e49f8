-- A linear program as rows of whole numbers, and what a pivot makes of them.
-- A row has a number for each variable, for the slack of each constraint, for v (the objective's value) and for the
-- right side, in this order. The rows of a table are those of the constraints and last the objective row, which says
-- that v and what the variables and slacks take from it are the right side.
use Rattle.std.specs.Prelude.{◌≡◌, ℕ, ◌+◌, ◌-◌, ◌^◌, ◌<◌, ◌≤◌, All, Bool, false, not, cond, ◌&&◌, ◌||◌, List, [], ◌∷◌, map, length, take, slice_index_or, slice_set, ℤ, pos, ◌*ℤ◌, ◌-ℤ◌, unsigned_abs, int_lt, nat_lt, slice_index, Option, Some, None, zero, suc}
use Rattle.std.specs.Int.{is_negative, is_positive}
use Rattle.std.specs.List.{list_any, position}
use Rattle.frac_rows.specs.Divisors.{reduced}

-- the greatest size of a number of a table
abbrev pub widest : ℕ
widest = 2 ^ 62

-- the constraint rows and last the objective row; and for each constraint row its basic column
pub record Table : Type 0 where
  pub rows : List (List ℤ)
  pub basis : List ℕ

-- the number of a row in a column
abbrev pub number : List ℤ → ℕ → ℤ
number row c = slice_index_or row c (pos 0)

-- the number of the last column
abbrev pub right_side : List ℤ → ℤ
right_side row = number row (length row - 1)

abbrev pub row_at : Table → ℕ → List ℤ
row_at t i = slice_index_or t.rows i []

abbrev pub objective : Table → List ℤ
objective t = row_at t (length t.basis)

-- ---- a pivot

-- p * row - e * base, number by number
abbrev pub eliminated : ℤ → List ℤ → ℤ → List ℤ → List ℤ
eliminated p [] e base = []
eliminated p (x ∷ row) e [] = []
eliminated p (x ∷ row) e (y ∷ base) = (p *ℤ x -ℤ e *ℤ y) ∷ eliminated p row e base

-- what a row becomes by a pivot on the column c of the base row
unfoldable pub pivoted : List ℤ → ℕ → List ℤ → List ℤ
pivoted base c row = reduced (eliminated (number base c) row (number row c) base)

-- the table after the pivot on the row r and the column c: the row r stays, and c is its basic column
unfoldable pub after_pivot : Table → ℕ → ℕ → Table
after_pivot t r c =
    record { rows = slice_set (map (pivoted (row_at t r) c) t.rows) r (row_at t r); basis = slice_set t.basis r c }

-- no number is too great in size
abbrev pub AreNarrow : List ℤ → Type 0
AreNarrow row = All (λ x. unsigned_abs x ≤ widest) row

-- some number is too great in size
abbrev pub is_wide_row : List ℤ → Bool
is_wide_row row = list_any (λ x. nat_lt widest (unsigned_abs x)) row

abbrev pub is_wide : Table → Bool
is_wide t = list_any is_wide_row t.rows

-- a table: as many numbers in each row, with a slack for each constraint, v and the right side; basic columns before v;
-- and no number that is too great
pub record IsTable (t : Table) : Type 0 where
  pub one_objective : length t.rows ≡ length t.basis + 1
  pub as_long : All (λ row. length row ≡ length (objective t)) t.rows
  pub one_slack_each : length t.basis + 2 ≤ length (objective t)
  pub before_v : All (λ c. c + 2 < length (objective t)) t.basis
  pub narrow : is_wide t ≡ false

-- ---- where the next pivot is

-- the least column before v with a number below 0 in the row
unfoldable pub first_negative : List ℤ → Option ℕ
first_negative row = position is_negative (take (length row - 2) row)

-- the column that enters the basis
abbrev pub entering : Table → Option ℕ
entering t = first_negative (objective t)

-- By its right side, its number in the entering column and its basic column one row leaves before another: the ratio of the
-- first two is less, or as great and the basic column less. Both numbers are above 0.
abbrev pub is_sooner : ℤ → ℤ → ℕ → ℤ → ℤ → ℕ → Bool
is_sooner right n b other_right o other_b =
    int_lt (right *ℤ o) (other_right *ℤ n) || not (int_lt (other_right *ℤ n) (right *ℤ o)) && nat_lt b other_b

-- the row i leaves before the row j where the column c enters
unfoldable pub leaves_before : Table → ℕ → ℕ → ℕ → Bool
leaves_before t c i j =
    is_sooner (right_side (row_at t i)) (number (row_at t i) c) (slice_index t.basis i)
    (right_side (row_at t j)) (number (row_at t j) c) (slice_index t.basis j)

-- the one of the best row so far and the row i that leaves before the other; a row may leave if its number is above 0
abbrev pub sooner : Table → ℕ → ℕ → Option ℕ → Option ℕ
sooner t c i None = cond (is_positive (number (row_at t i) c)) (Some i) None
sooner t c i (Some j) = cond (is_positive (number (row_at t i) c) && leaves_before t c i j) (Some i) (Some j)

-- the one of the first n rows that leaves first
abbrev pub leaving_of : Table → ℕ → ℕ → Option ℕ
leaving_of t c zero = None
leaving_of t c (suc n) = sooner t c n (leaving_of t c n)

-- the constraint row that leaves where the column c enters
unfoldable pub leaving : Table → ℕ → Option ℕ
leaving t c = leaving_of t c (length t.basis)
