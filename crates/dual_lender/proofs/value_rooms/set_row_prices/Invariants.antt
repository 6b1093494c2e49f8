use Rattle.std.proofs.Common.{◌≡◌, length}
use Rattle.value_cuts.specs.Prices.{ArePricesFrom}
use Rattle.dual_lender.proofs.value_rooms.set_row_prices.Given as goal

abbrev pub invariant-loop-j : goal.invariant-loop-j
invariant-loop-j l = record {
  prices : ArePricesFrom l.tables l.values l.i l.prices l.j;
  room : l.scratch ≡ length l.tables.candidates;
  same_room : l.scratch ≡ l.fn.scratch;
}
