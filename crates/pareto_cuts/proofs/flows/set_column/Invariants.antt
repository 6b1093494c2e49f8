use Rattle.std.proofs.Common.{◌*◌}
use Rattle.unit_duals.specs.Cells.{cell}
use Rattle.pareto_cuts.specs.AddedRows.{AreRowsAdded}
use Rattle.pareto_cuts.proofs.flows.set_column.Given as goal

abbrev pub invariant-loop-t : goal.invariant-loop-t
invariant-loop-t l = AreRowsAdded l.order l.t (λ t. l.flow * cell l.size l.values t l.j) l.fn.by_node l.by_node
