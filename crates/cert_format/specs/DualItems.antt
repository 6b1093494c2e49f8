-- The lines of a cut's duals, origin by origin.
use Rattle.std.specs.Prelude.{◌≡◌, ◌≢◌, ℕ, ◌+◌, ◌*◌, ◌≤◌, List, [], ◌∷◌, ◌++◌, length, map, flat_map, take, drop, replicate, slice_index_or, if◌then◌else◌}
use Rattle.std.specs.List.{range_with_len}
use Rattle.hub_spec.specs.Cuts.{Prices}
use Rattle.cert_spec.specs.Lines.{Item}
use Rattle.cert_spec.specs.Runs.{runs}
use Rattle.cert_spec.specs.Text.{same_prices, is_first, singles, run_items}

-- the runs of these duals, the first of which stands at place t, that the lines of this version say
abbrev pub runs_from : ℕ → ℕ → ℕ → List Prices → List (ℕ × Prices)
runs_from v n t duals = if is_first v then singles duals else runs same_prices n t duals

-- the lines of the duals of the commodities from i, of which this is the first
abbrev pub row_items_from : (v n i j : ℕ) → List Prices → List Item
row_items_from v n i j duals = run_items n (i * n + j) (runs_from v n (i * n + j) duals)

-- those of all of them
abbrev pub row_items : (v n i : ℕ) → List Prices → List Item
row_items v n i row = row_items_from v n i 0 row

-- the duals of the commodities from i, among those of all
abbrev pub dual_row : ℕ → List Prices → ℕ → List Prices
dual_row n duals i = take n (drop (i * n) duals)

-- ---- runs in a row

-- where there is no dual
abbrev pub no_dual : Prices
no_dual = record { a = 0; u = [] }

-- another dual comes first, or none
abbrev pub BeginsOther : Prices → List Prices → Type 0
BeginsOther dual [] = Unit {0}
BeginsOther dual (next ∷ duals) = dual ≢ next

-- so many duals of a row, from place j on, are equal
pub record AreEqual (row : List Prices) (j run : ℕ) : Type 0 where
  pub some : 1 ≤ run
  pub within : j + run ≤ length row
  pub same : drop j row ≡ replicate run (slice_index_or row j no_dual) ++ drop (j + run) row

-- and the next one, if there is one, is not equal to them
pub record EqualDuals (row : List Prices) (j run : ℕ) : Type 0 where
  pub equal : AreEqual row j run
  pub last : BeginsOther (slice_index_or row j no_dual) (drop (j + run) row)

-- so many duals of a row, from place j on, are one line: one in the first version, and in a later one all that are equal
pub record IsRunAt (v : ℕ) (row : List Prices) (j run : ℕ) : Type 0 where
  pub equal : AreEqual row j run
  pub first : v ≡ 1 → run ≡ 1
  pub later : v ≢ 1 → BeginsOther (slice_index_or row j no_dual) (drop (j + run) row)

-- ---- duals that a function gives

-- those of the commodities from i, between n nodes
abbrev pub row_of : ℕ → (ℕ × ℕ → Prices) → ℕ → List Prices
row_of n dual i = map (λ j. dual (i, j)) (range_with_len 0 n)

-- their lines
abbrev pub dual_items_from : ℕ → ℕ → (ℕ × ℕ → Prices) → ℕ → List Item
dual_items_from v n dual i = row_items v n i (row_of n dual i)

-- the lines of the duals of all commodities
abbrev pub all_dual_items : ℕ → ℕ → (ℕ × ℕ → Prices) → List Item
all_dual_items v n dual = flat_map (dual_items_from v n dual) (range_with_len 0 n)
