-- A table that is set column by column.
use Rattle.std.proofs.Common.{◌≡◌, ℕ, ◌+◌, ◌*◌, ◌<◌, ◌≤◌, List, length, set, slice_index, sym, subst, ◌∙◌, ⊎_elim, arith}
use Rattle.std.proofs.lemmas.Bool.{cases_lt}
use Rattle.std.proofs.lemmas.List.{get_or-set_same, get_or-set_other}
use Rattle.std.proofs.lemmas.Nat.{same_from_place}
use Rattle.unit_duals.specs.Cells.{cell, IsTable}
use Rattle.unit_duals.specs.Lengths.{UnitLegs, AreLegs, IsLegRow, stops, trunk_leg, last_leg}
use Rattle.unit_duals.specs.Lowered.{length_from, AreLowered, AreRows}
use Rattle.unit_duals.specs.Raised.{IsColumnSet}
use Rattle.unit_duals.specs.Values.{back_leg}
use Rattle.unit_duals.proofs.LeastNumbers.{least_same}
use Rattle.unit_duals.proofs.LegRows.{trunk_leg_limit}
use Rattle.unit_duals.proofs.TableCells.{cell_within, row_within}

-- the next cell of the column is set
pub column_more : (n rows j v : ℕ) (value : ℕ → ℕ) (old new : List ℕ) → j < n → rows * n + j < length new → v ≡ value rows
    → IsColumnSet n rows j value old new → IsColumnSet n (rows + 1) j value old (set new (rows * n + j) v)
column_more n rows j v value old new column within is so_far = record {
  here = λ k below. ⊎_elim
      (λ (early : k < rows). get_or-set_other new (rows * n + j) (k * n + j) v 0 (λ e. apart k early (same_from_place k j rows j n column column e).0)
      ∙ so_far.here k early)
      (λ (late : rows ≤ k). let same : rows ≡ k = omega (arith, below, late) in
      subst (λ (x : ℕ). cell n (set new (rows * n + j) v) x j ≡ value x) same (get_or-set_same new (rows * n + j) v 0 within ∙ is))
      (cases_lt k rows);
  others = λ k i other in_row. get_or-set_other new (rows * n + j) (k * n + i) v 0
      (λ e. other (same_from_place k i rows j n in_row column e).1) ∙ so_far.others k i other in_row;
}
  where
    apart : (k : ℕ) → k < rows → k ≡ rows → ⊥
    apart k early same = omega (arith, early, same)

-- the columns before `upto` are set
pub record AreColumnsSet (n rows upto : ℕ) (value : ℕ → ℕ → ℕ) (table : List ℕ) : Type 0 where
  pub each : (k j : ℕ) → k < rows → j < upto → cell n table k j ≡ value k j

-- ---- the lengths to one destination

-- the turned trunk legs, with the straight legs as bases
pub turned_rows : (l : UnitLegs) (straight turned : List ℕ) (j n : ℕ) → n ≡ stops l → AreLegs l → IsLegRow (stops l) (λ k. last_leg l k j) straight
    → length turned ≡ stops l * stops l → IsTable (stops l) (λ k m v. v ≡ trunk_leg l m k) turned (length turned) → AreRows n straight turned
turned_rows l straight turned j n is legs row long table = subst (λ (w : ℕ). AreRows w straight turned) (sym is) (record {
  rows = λ m below. omega (arith, row_within m (stops l) (stops l) (omega (arith, below, row.long)), long);
  base_limit = row.limit;
  leg_limit = λ m k below column. (let stop : m < stops l = omega (arith, below, row.long) in
      omega (
        arith,
        trunk_leg_limit l k m legs column stop,
        table.each m k column (omega (arith, cell_within m k (stops l) (stops l) stop column, long)),
      ));
})

pub column_lowered : (l : UnitLegs) (straight turned new : List ℕ) (j n : ℕ) → n ≡ stops l → IsLegRow (stops l) (λ k. last_leg l k j) straight
    → length turned ≡ stops l * stops l → IsTable (stops l) (λ k m v. v ≡ trunk_leg l m k) turned (length turned)
    → AreLowered n straight turned l.count l.hubs straight new → (k : ℕ) → k < stops l → slice_index new k ≡ back_leg l k j
unfolding back_leg
column_lowered l straight turned new j n is row long table lowered k stop =
    (subst (λ (w : ℕ). AreLowered w straight turned l.count l.hubs straight new) is lowered).here k stop
    ∙ least_same (slice_index straight k) (last_leg l k j) (λ x. length_from (stops l) straight turned (l.count + x) k)
    (λ m. trunk_leg l k (l.count + m) + last_leg l (l.count + m) j) l.hubs (row.each k stop)
    (λ x below. (let hub : l.count + x < stops l = omega (arith, below) in
    omega (
      arith,
      row.each (l.count + x) hub,
      table.each (l.count + x) k stop (omega (arith, cell_within (l.count + x) k (stops l) (stops l) hub stop, long)),
    )))
