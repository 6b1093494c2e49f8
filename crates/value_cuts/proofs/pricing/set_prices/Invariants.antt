use Rattle.std.proofs.Common.{◌≡◌, ◌*◌, length}
use Rattle.unit_duals.specs.Cells.{IsTable}
use Rattle.value_cuts.specs.Prices.{row_price}
use Rattle.value_cuts.proofs.pricing.set_prices.Given as goal

abbrev pub invariant-loop-i : goal.invariant-loop-i
invariant-loop-i l = record {
  prices : IsTable l.tables.size (λ i j a. a ≡ row_price l.tables l.values (i, j)) l.prices (l.i * l.tables.size);
  room : l.scratch ≡ length l.tables.candidates;
  same_room : l.scratch ≡ l.fn.scratch;
}
