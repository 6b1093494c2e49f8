-- Flat tables, set cell by cell.
use Rattle.std.proofs.Common.{◌≡◌, ℕ, ◌+◌, ◌*◌, ◌<◌, ◌≤◌, List, length, set, sym, subst, ⊎_elim, arith}
use Rattle.std.proofs.lemmas.Bool.{cases_lt}
use Rattle.std.proofs.lemmas.List.{get_or-set_same, get_or-set_other}
use Rattle.std.proofs.lemmas.Nat.{same_from_place, mul-add-lt, row_fits}
use Rattle.unit_duals.specs.Cells.{cell, IsTable}

-- the next cell is set
pub table_more : (n : ℕ) (R : ℕ → ℕ → ℕ → Type 0) (table : List ℕ) (t j v z : ℕ) → j < n → t * n + j < length table → R t j v
    → z ≡ t * n + j + 1 → IsTable n R table (t * n + j) → IsTable n R (set table (t * n + j) v) z
table_more n R table t j v z column within is next so_far = record {
  each = λ s i in_row below. ⊎_elim
      (λ (early : s * n + i < t * n + j). subst (R s i) (sym (get_or-set_other table (t * n + j) (s * n + i) v 0 (λ e. omega (arith, early, e)))) (so_far.each s i in_row early))
      (λ (late : t * n + j ≤ s * n + i).
      let same : s * n + i ≡ t * n + j = omega (arith, below, late, next) in
      let places = same_from_place s i t j n in_row column same in
      subst (λ (r : ℕ). R r i (cell n (set table (t * n + j) v) r i)) (sym places.0)
      (subst (λ (c : ℕ). R t c (cell n (set table (t * n + j) v) t c)) (sym places.1)
      (subst (R t j) (sym (get_or-set_same table (t * n + j) v 0 within)) is)))
      (cases_lt (s * n + i) (t * n + j));
}

-- the cell of row t and column j is in a table with more rows
pub cell_within : (t j n c : ℕ) → t < c → j < n → t * n + j < c * n
cell_within t j n c row column = omega (arith, mul-add-lt t n j c row column)

-- a whole row is, too
pub row_within : (t n c : ℕ) → t < c → t * n + n ≤ c * n
row_within t n c row = omega (arith, row_fits t n c n row (omega arith))
