-- A run: pivots on the entering column and the leaving row, to the best table or the end of what is allowed.
use Rattle.std.specs.Prelude.{ℕ, zero, suc, ◌+◌, Bool, true, false, Option, Some, None}
use Rattle.frac_rows.specs.Rows.{Table, after_pivot, is_wide, entering, leaving}
use Rattle.frac_rows.specs.declared.ended.Ended.{Ended}
use Rattle.frac_rows.specs.declared.ended.Ended.TheVariants.{Best, Turns, Wide}

abbrev pub most_pivots : ℕ
most_pivots = 2000

-- a run goes on with another table, or ends
pub data Step : Type 0 where
  goes : Table → Step
  ends : Ended → Step

-- the pivot is made unless a number of its table is too great
abbrev pub unless_wide : Table → Bool → Step
unless_wide t false = goes t
unless_wide t true = ends Wide

-- the step with the column c and the row that leaves for it
abbrev pub step_at : Table → ℕ → Option ℕ → Step
step_at t c None = ends Wide
step_at t c (Some r) = unless_wide (after_pivot t r c) (is_wide (after_pivot t r c))

abbrev pub step_by : Table → Option ℕ → Step
step_by t None = ends Best
step_by t (Some c) = step_at t c (leaving t c)

-- what a run does at a table where a pivot is allowed
unfoldable pub step : Table → Step
step t = step_by t (entering t)

-- how it ends at a table where none is
abbrev pub ended_by : Option ℕ → Ended
ended_by None = Best
ended_by (Some c) = Turns

-- the last table of a run, how it ended, and how many pivots were made
pub record Outcome : Type 0 where
  pub table : Table
  pub ended : Ended
  pub pivots : ℕ

-- a run after some pivots, of which so many more are allowed
unfoldable pub run_on : ℕ → ℕ → Table → Outcome
run_on zero made t = record { table = t; ended = ended_by (entering t); pivots = made }
run_on (suc n) made t =
    elim (step t) [ ends e ↦ record { table = t; ended = e; pivots = made } | goes u ↦ run_on n (made + 1) u ]

unfoldable pub run : Table → Outcome
run t = run_on most_pivots 0 t
