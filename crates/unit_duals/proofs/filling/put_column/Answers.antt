use Rattle.std.proofs.Common.{slice_index, refl, arith}
use Rattle.unit_duals.proofs.TableCells.{cell_within}
use Rattle.unit_duals.proofs.TableColumns.{column_more}
use Rattle.std.proofs.Common.{length}
use Rattle.unit_duals.proofs.filling.put_column.Goals as goal

pub loop-k-preserved : goal.loop-k-preserved
loop-k-preserved c =
    column_more c.args.size c.loop-k.k c.args.j (slice_index c.args.column.now c.loop-k.k) (slice_index c.args.column.now) c.args.table.now
    c.loop-k.table c.requires.column
    (omega (
      arith,
      cell_within c.loop-k.k c.args.j c.args.size (length c.args.column.now) (omega arith) c.requires.column,
      c.requires.long,
      c.loop-k.auto.table,
    )) refl c.loop-k.invariant
