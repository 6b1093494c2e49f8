-- Tables of legs, set row by row.
use Rattle.std.proofs.Common.{◌≡◌, ℕ, ◌+◌, ◌*◌, ◌/◌, ◌%◌, ◌<◌, ◌≤◌, List, length, set, slice_index, All, ⊎_elim, sym, subst, arith}
use Rattle.std.proofs.lemmas.Bool.{cases_lt}
use Rattle.std.proofs.lemmas.List.Elements.{All-from_get_or}
use Rattle.std.proofs.lemmas.Nat.{mul-le, div-add-mod', div_below, mod_below}
use Rattle.unit_duals.specs.Cells.{cell}
use Rattle.unit_duals.specs.Raised.{IsRowSet}
use Rattle.unit_duals.proofs.SetRows.{row_set_more}

-- the next cell of the row is set, at a place that is written otherwise
pub row_more_at : (n t upto next at v : ℕ) (value : ℕ → ℕ) (old new : List ℕ) → at ≡ t * n + upto → next ≡ upto + 1 → upto < n
    → at < length new → v ≡ value upto → IsRowSet n t upto value old new → IsRowSet n t next value old (set new at v)
row_more_at n t upto next at v value old new place more column within is so_far =
    subst (λ (y : ℕ). IsRowSet n t y value old (set new at v)) (sym more)
    (subst (λ (x : ℕ). IsRowSet n t (upto + 1) value old (set new x v)) (sym place)
    (row_set_more n t upto v value old new column (omega (arith, within, place)) is so_far))

-- the limit of each cell is that of each item
pub table_limit : (n c most : ℕ) (table : List ℕ) → length table ≡ c * n
    → ((t j : ℕ) → t < c → j < n → cell n table t j ≤ most) → All (λ d. d ≤ most) table
table_limit n c most table long each =
    All-from_get_or (λ d. d ≤ most) table 0 (λ x below.
    let some : 0 < n = some_column x (omega (arith, below, long)) in
    let place = div-add-mod' x n in
    let limit = each (x / n) (x % n) (div_below x n c some (omega (arith, below, long))) (mod_below x n some) in
    subst (λ (y : ℕ). slice_index table y ≤ most) place limit)
  where
    some_column : (x : ℕ) → x < c * n → 0 < n
    some_column x below = ⊎_elim (λ (some : 0 < n). some)
        (λ (none : n ≤ 0). absurd (omega (arith, mul-le c n c 0 (omega arith) none, below))) (cases_lt 0 n)
