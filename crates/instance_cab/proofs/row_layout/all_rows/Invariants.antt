use Rattle.std.proofs.Common.{length}
use Rattle.instance_cab.proofs.RowStages.{AreRowsRead}
use Rattle.instance_cab.proofs.row_layout.all_rows.Given as goal

abbrev pub invariant-loop-reader : goal.invariant-loop-reader
invariant-loop-reader l = AreRowsRead l.bytes l.n l.reader l.taken

abbrev pub decreases-loop-reader : goal.decreases-loop-reader
decreases-loop-reader l = length l.reader.tokens
