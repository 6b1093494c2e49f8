use Rattle.pareto_cuts.specs.AddedRows.{row_sum, AreRowsAdded}
use Rattle.pareto_cuts.proofs.flows.add_rows.Given as goal

abbrev pub invariant-loop-t : goal.invariant-loop-t
invariant-loop-t l = AreRowsAdded l.order l.t (row_sum l.flows l.values) l.fn.loads l.loads
