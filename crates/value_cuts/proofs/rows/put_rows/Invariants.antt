use Rattle.std.proofs.Common.{◌≡◌, ◌*◌}
use Rattle.unit_duals.specs.Cells.{IsTable}
use Rattle.value_cuts.specs.Prices.{row_price}
use Rattle.value_cuts.proofs.rows.put_rows.Given as goal

abbrev pub invariant-loop-i : goal.invariant-loop-i
invariant-loop-i l = IsTable l.tables.size (λ i j a. a ≡ row_price l.tables l._values (i, j)) l.prices (l.i * l.tables.size)
