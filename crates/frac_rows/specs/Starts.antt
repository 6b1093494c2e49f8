-- The table of a linear program before the first pivot, from its columns as textbooks write them.
use Rattle.std.specs.Prelude.{ℕ, ◌+◌, ◌==◌, if◌then◌else◌, List, [], ◌∷◌, ◌++◌, map, length, ℤ, pos}
use Rattle.std.specs.List.{range_with_len}
use Rattle.frac_rows.specs.Rows.{Table, number}

-- n numbers: 1 at the place i, and else 0
unfoldable pub unit : ℕ → ℕ → List ℤ
unit n i = map (λ k. if k == i then pos 1 else pos 0) (range_with_len 0 n)

-- The numbers behind those of the variables: 1 for the row's own slack, or for v in the objective row, and the right
-- side, which the objective row has at 0.
unfoldable pub own_numbers : List ℤ → ℕ → List ℤ
own_numbers rights i = unit (length rights + 1) i ++ number rights i ∷ []

-- the row i before the first pivot
unfoldable pub start_row : List (List ℤ) → List ℤ → ℕ → List ℤ
start_row columns rights i = map (λ column. number column i) columns ++ own_numbers rights i

-- The slacks are basic. Each variable has a column: its number in each constraint, and last the one in the objective
-- row, which is what v loses by it.
unfoldable pub start : List (List ℤ) → List ℤ → Table
start columns rights = record {
  rows = map (start_row columns rights) (range_with_len 0 (length rights + 1));
  basis = range_with_len (length columns) (length rights);
}
