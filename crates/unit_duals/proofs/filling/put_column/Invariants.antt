use Rattle.std.proofs.Common.{slice_index}
use Rattle.unit_duals.specs.Raised.{IsColumnSet}
use Rattle.unit_duals.proofs.filling.put_column.Given as goal

abbrev pub invariant-loop-k : goal.invariant-loop-k
invariant-loop-k l = IsColumnSet l.size l.k l.j (slice_index l.column) l.fn.table l.table
