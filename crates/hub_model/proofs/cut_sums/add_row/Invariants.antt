use Rattle.hub_model.specs.Prices.{natural_values}
use Rattle.hub_model.proofs.RowLoads.{AreLoadsUpTo}
use Rattle.hub_model.proofs.cut_sums.add_row.Given as goal

abbrev pub invariant-loop-k : goal.invariant-loop-k
invariant-loop-k l = AreLoadsUpTo l.loads l.rows l.t (natural_values l.k-items) l.k-index
