-- Runs of commodities with one dual.
use Rattle.std.specs.Prelude.{◌≡◌, ℕ, ◌+◌, ◌*◌, ◌<◌, ◌≤◌, List, [], length, take, replicate, slice_range, slice_index_or, flat_map, sum_by, All}
use Rattle.hub_spec.specs.Limits.{most_nodes}
use Rattle.hub_spec.specs.Cuts.{Prices, value_at}
use Rattle.hub_spec.specs.Ranges.{IsDualInRange}
use Rattle.cut_model.specs.Values.{listed_values}
use Rattle.cut_model.specs.declared.values.StatedValue.{StatedValue}
use Rattle.cut_model.specs.declared.runs.Run.{Run}

-- where there is no run, and no dual
abbrev pub no_run : Run
no_run = record { price = 0; many = 0; end = 0; from = 0; to = 0 }

abbrev pub no_dual : Prices
no_dual = record { a = 0; u = [] }

-- the dual of a run: its price, and its values among those of the cut
abbrev pub run_dual : List StatedValue → Run → Prices
run_dual values r = record { a = r.price; u = listed_values (slice_range values r.from r.to) }

-- its duals, one for each of its commodities
abbrev pub duals_of_run : List StatedValue → Run → List Prices
duals_of_run values r = replicate r.many (run_dual values r)

-- the duals of all runs in order
abbrev pub run_duals : List StatedValue → List Run → List Prices
run_duals values runs = flat_map (duals_of_run values) runs

-- how many commodities the first so many runs are for
abbrev pub begun : List Run → ℕ → ℕ
begun runs i = sum_by (λ r. r.many) (take i runs)

-- a run of some commodities, the values of which stand among these, and its dual is in range
pub record IsRunOf (values : List StatedValue) (r : Run) : Type 0 where
  pub some : 1 ≤ r.many
  pub order : r.from ≤ r.to
  pub within : r.to ≤ length values
  pub dual : IsDualInRange most_nodes (run_dual values r)

-- runs of so many commodities together, each with the number of those up to its end
pub record HaveEnds (runs : List Run) (count : ℕ) : Type 0 where
  pub each : All (λ r. 1 ≤ r.many) runs
  pub ends : (i : ℕ) → i < length runs → (slice_index_or runs i no_run).end ≡ begun runs (i + 1)
  pub all : begun runs (length runs) ≡ count

-- the run of this place has the commodity of this number
pub record IsRunAt (runs : List Run) (number place : ℕ) : Type 0 where
  pub within : place < length runs
  pub from : begun runs place ≤ number
  pub to : number < begun runs (place + 1)

-- ---- sums

-- the prices of a run's commodities, and their values of a node, together
abbrev pub run_total : Run → ℕ
run_total r = r.many * r.price

abbrev pub run_load : List StatedValue → ℕ → Run → ℕ
run_load values k r = r.many * value_at (run_dual values r).u k
