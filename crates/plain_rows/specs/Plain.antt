-- The table of a linear program before the first pivot, from its constraints and its objective as they are written.
use Rattle.std.specs.Prelude.{◌≡◌, ℕ, ◌+◌, ◌^◌, ◌<◌, List, [], ◌∷◌, ◌++◌, map, length, All, ℤ, pos, ◌-ℤ◌, ◌≤ℤ◌}
use Rattle.std.specs.List.{range_with_len}
use Rattle.frac_rows.specs.Rows.{Table, number, right_side, AreNarrow}
use Rattle.frac_rows.specs.Starts.{start}
use Rattle.frac_rows.specs.Stored.{piece}

-- the column of the variable j: its number in each constraint, and last what v loses by it
abbrev pub column_of : List (List ℤ) → List ℤ → ℕ → List ℤ
column_of constraints objective j = map (λ row. number row j) constraints ++ (pos 0 -ℤ number objective j) ∷ []

-- a constraint has the numbers of the variables and its right side; the objective, which is to be as great as can be, has those
-- of the variables alone
unfoldable pub plain_table : List (List ℤ) → List ℤ → Table
plain_table constraints objective =
    start (map (column_of constraints objective) (range_with_len 0 (length objective))) (map right_side constraints)

-- a constraint of so many variables: no number is too great in size, and the right side is at least 0
pub record IsConstraint (variables : ℕ) (row : List ℤ) : Type 0 where
  pub long : length row ≡ variables + 1
  pub narrow : AreNarrow row
  pub right : pos 0 ≤ℤ right_side row

-- a program whose table can be held
pub record IsProgram (constraints : List (List ℤ)) (objective : List ℤ) : Type 0 where
  pub each : All (IsConstraint (length objective)) constraints
  pub narrow : AreNarrow objective
  pub few : length objective + length constraints + 2 < 2 ^ 32

-- the numbers of the variables in the row i, as they are given
pub record IsGivenRow (constraints : List (List ℤ)) (objective : List ℤ) (i : ℕ) (row : List ℤ) : Type 0 where
  pub long : length row ≡ length objective
  pub narrow : AreNarrow row
  pub each : (k : ℕ) → k < length objective → number row k ≡ number (column_of constraints objective k) i

-- the first n rows are given so, one after the other
pub record AreGiven (constraints : List (List ℤ)) (objective : List ℤ) (n : ℕ) (given : List ℤ) : Type 0 where
  pub each : (i : ℕ) → i < n → IsGivenRow constraints objective i (piece (length objective) given i)
