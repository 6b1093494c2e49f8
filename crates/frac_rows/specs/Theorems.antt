-- What is proved of tables and runs; each statement is the contract of the public function of its name.
use Rattle.std.specs.Prelude.{◌≡◌, ◌≢◌, ◌↔◌, ℕ, ◌+◌, ◌-◌, ◌<◌, ◌≤◌, List, length, take, slice_index, None, Some, All, Contains, ℤ, pos, ◌*ℤ◌, ◌≤ℤ◌, ◌<ℤ◌, unsigned_abs}
use Rattle.std.specs.Int.{◌∣◌}
use Rattle.frac_rows.specs.Divisors.{divisor_of}
use Rattle.frac_rows.specs.Rows.{Table, number, right_side, row_at, objective, after_pivot, leaving, IsTable, AreNarrow}
use Rattle.frac_rows.specs.Runs.{run}
use Rattle.frac_rows.specs.Starts.{start}
use Rattle.frac_rows.specs.Stored.{dot}
use Rattle.frac_rows.specs.declared.ended.Ended.TheVariants.{Best}

-- the divisor of a row divides each of its numbers, and each number that does so divides it
abbrev pub GreatestDivisor : Type 0
GreatestDivisor = (row : List ℤ)
    → All (λ x. divisor_of row ∣ unsigned_abs x) row
    × ((d : ℕ) → All (λ x. d ∣ unsigned_abs x) row → d ∣ divisor_of row)

-- ---- the row that leaves

-- the row i may leave where the column c enters: it is a constraint row with a number above 0 there
pub record MayLeave (t : Table) (c i : ℕ) : Type 0 where
  pub constraint : i < length t.basis
  pub above : pos 0 <ℤ number (row_at t i) c

-- The row r may leave. Of the rows that may, none has a lesser ratio of its right side over its number in the column,
-- and none with the same ratio has a lesser basic column.
pub record IsLeastRatio (t : Table) (c r : ℕ) : Type 0 where
  pub may_leave : MayLeave t c r
  pub ratio : (i : ℕ) → MayLeave t c i
      → (right_side (row_at t r) *ℤ number (row_at t i) c) ≤ℤ (right_side (row_at t i) *ℤ number (row_at t r) c)
  pub tie : (i : ℕ) → MayLeave t c i
      → right_side (row_at t r) *ℤ number (row_at t i) c ≡ right_side (row_at t i) *ℤ number (row_at t r) c
      → slice_index t.basis r ≤ slice_index t.basis i

-- the row that leaves is such a row, and none leaves exactly where no row may
abbrev pub LeavingIsLeast : Type 0
LeavingIsLeast = (t : Table) (c : ℕ)
    → ((r : ℕ) → leaving t c ≡ Some r → IsLeastRatio t c r)
    × ((leaving t c ≡ None) ↔ ((i : ℕ) → MayLeave t c i → ⊥))

-- ---- solutions

-- Values of all columns but the right side, each divided by one denominator, solve a row: its numbers times the values
-- add up to its right side.
abbrev pub Solves : List ℤ → ℕ → List ℤ → Type 0
Solves values denom row = dot row values ≡ pos denom *ℤ right_side row

-- there is a value for each column but the right side, and they solve all rows
pub record IsSolution (t : Table) (values : List ℤ) (denom : ℕ) : Type 0 where
  pub one_each : length values + 1 ≡ length (objective t)
  pub solves : All (Solves values denom) t.rows

-- a pivot is made on a constraint row and on a column that is neither v nor the right side, with a number above 0 there
pub record IsPlace (t : Table) (r c : ℕ) : Type 0 where
  pub constraint : r < length t.basis
  pub before_v : c + 2 < length (objective t)
  pub above : pos 0 <ℤ number (row_at t r) c

-- values solve a table exactly where they solve the table after a pivot
abbrev pub SameSolutions : Type 0
SameSolutions = (t : Table) (r c : ℕ) (values : List ℤ) (denom : ℕ) → IsTable t → IsPlace t r c
    → IsSolution t values denom ↔ IsSolution (after_pivot t r c) values denom

-- ---- what a run keeps

-- values solve a table exactly where they solve the table that its run ends with
abbrev pub SolutionsStay : Type 0
SolutionsStay = (t : Table) (values : List ℤ) (denom : ℕ) → IsTable t
    → IsSolution t values denom ↔ IsSolution (run t).table values denom

-- no right side is below 0, that of the objective row among them
abbrev pub AreRightsLow : Table → Type 0
AreRightsLow t = All (λ row. pos 0 ≤ℤ right_side row) t.rows

-- they stay so through a run
abbrev pub RightsStay : Type 0
RightsStay = (t : Table) → IsTable t → AreRightsLow t → AreRightsLow (run t).table

-- each constraint row has a number above 0 in its basic column, where the other rows have 0
pub record IsBasic (t : Table) : Type 0 where
  pub own : (i : ℕ) → i < length t.basis → pos 0 <ℤ number (row_at t i) (slice_index t.basis i)
  pub others : (i j : ℕ) → i < length t.basis → j ≤ length t.basis → j ≢ i
      → number (row_at t j) (slice_index t.basis i) ≡ pos 0

-- so it stays through a run
abbrev pub BasisStays : Type 0
BasisStays = (t : Table) → IsTable t → IsBasic t → IsBasic (run t).table

-- where each constraint row has its basic column to itself, only one row has the least ratio, and it leaves
abbrev pub LeastLeaves : Type 0
LeastLeaves = (t : Table) (c r : ℕ) → IsBasic t → IsLeastRatio t c r → leaving t c ≡ Some r

-- v has a number above 0 in the objective row, and none in the others
pub record IsOfObjective (t : Table) : Type 0 where
  pub own : pos 0 <ℤ number (objective t) (length (objective t) - 2)
  pub others : (i : ℕ) → i < length t.basis → number (row_at t i) (length (objective t) - 2) ≡ pos 0

-- so it stays through a run
abbrev pub ObjectiveStays : Type 0
ObjectiveStays = (t : Table) → IsTable t → IsOfObjective t → IsOfObjective (run t).table

-- a solution in which no value is below 0, but v's may be
pub record IsAdmissible (t : Table) (values : List ℤ) (denom : ℕ) : Type 0 where
  pub solution : IsSolution t values denom
  pub low : All (λ x. pos 0 ≤ℤ x) (take (length (objective t) - 2) values)

-- Where a run ends with a best table, no admissible solution of the table that it began with gives v a greater value
-- than the last right side over v's number.
abbrev pub BestIsBest : Type 0
BestIsBest = (t : Table) (values : List ℤ) (denom : ℕ)
    → IsTable t → IsOfObjective t → (run t).ended ≡ Best → IsAdmissible t values denom
    → (number (objective (run t).table) (length (objective t) - 2) *ℤ number values (length (objective t) - 2))
    ≤ℤ (pos denom *ℤ right_side (objective (run t).table))

-- ---- basic solutions

-- The basic solution: each basic column has its row's right side over the row's own number there, v the objective row's,
-- and every other column 0. All values are divided by one denominator.
pub record IsBasicSolution (t : Table) (values : List ℤ) (denom : ℕ) : Type 0 where
  pub above : 1 ≤ denom
  pub one_each : length values + 1 ≡ length (objective t)
  pub basic : (i : ℕ) → i < length t.basis
      → number (row_at t i) (slice_index t.basis i) *ℤ number values (slice_index t.basis i)
      ≡ pos denom *ℤ right_side (row_at t i)
  pub worth : number (objective t) (length (objective t) - 2) *ℤ number values (length (objective t) - 2)
      ≡ pos denom *ℤ right_side (objective t)
  pub others : (c : ℕ) → c + 2 < length (objective t) → (Contains t.basis c → ⊥) → number values c ≡ pos 0

-- there is one, where each row has its basic column to itself and the objective row has v
abbrev pub SomeBasicSolution : Type 0
SomeBasicSolution = (t : Table) → IsTable t → IsBasic t → IsOfObjective t
    → (values : List ℤ) × (denom : ℕ) × IsBasicSolution t values denom

-- and it solves the table
abbrev pub BasicSolves : Type 0
BasicSolves = (t : Table) (values : List ℤ) (denom : ℕ) → IsTable t → IsBasic t → IsOfObjective t
    → IsBasicSolution t values denom → IsSolution t values denom

-- However a run ends, the last table's basic solution is an admissible one of the table that the run began with.
abbrev pub LastIsAdmissible : Type 0
LastIsAdmissible = (t : Table) (values : List ℤ) (denom : ℕ)
    → IsTable t → IsBasic t → IsOfObjective t → AreRightsLow t
    → IsBasicSolution (run t).table values denom → IsAdmissible t values denom

-- an admissible solution, and none gives v a greater value
pub record IsOptimal (t : Table) (values : List ℤ) (denom : ℕ) : Type 0 where
  pub admissible : IsAdmissible t values denom
  pub greatest : (others : List ℤ) (other_denom : ℕ) → IsAdmissible t others other_denom
      → (pos denom *ℤ number others (length (objective t) - 2))
      ≤ℤ (pos other_denom *ℤ number values (length (objective t) - 2))

-- Where the run ends with a best table, that solution is optimal.
abbrev pub LastIsOptimal : Type 0
LastIsOptimal = (t : Table) (values : List ℤ) (denom : ℕ)
    → IsTable t → IsBasic t → IsOfObjective t → AreRightsLow t → (run t).ended ≡ Best
    → IsBasicSolution (run t).table values denom → IsOptimal t values denom

-- ---- the table before the first pivot

-- what it is where no number is too great
pub record IsFirstTable (columns : List (List ℤ)) (rights : List ℤ) : Type 0 where
  pub table : IsTable (start columns rights)
  pub basic : IsBasic (start columns rights)
  pub of_objective : IsOfObjective (start columns rights)
  pub rights_low : All (λ x. pos 0 ≤ℤ x) rights → AreRightsLow (start columns rights)

abbrev pub FirstIsTable : Type 0
FirstIsTable = (columns : List (List ℤ)) (rights : List ℤ)
    → All AreNarrow columns → AreNarrow rights → IsFirstTable columns rights
