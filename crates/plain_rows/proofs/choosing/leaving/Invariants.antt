use Rattle.std.proofs.Common.{◌≡◌, ◌<◌, ◌<ℤ◌, pos, length, slice_index, IfSome}
use Rattle.frac_rows.specs.Rows.{number, leaving_of}
use Rattle.frac_rows.specs.Stored.{piece}
use Rattle.plain_rows.specs.Flat.{table_of, width_of}
use Rattle.plain_rows.proofs.choosing.leaving.Given as goal

abbrev pub invariant-loop-i : goal.invariant-loop-i
invariant-loop-i l = record {
  value : l.best ≡ leaving_of (table_of l.outside l.numbers l.basis) (slice_index l.outside l.place) l.i;
  row : IfSome l.best (λ j. j < length l.basis);
  above : IfSome l.best (λ j. pos 0 <ℤ number (piece (width_of l.outside) l.numbers j) l.place);
}
