use Rattle.cut_pool.proofs.ShortRows.{ArePushedTo}
use Rattle.cut_pool.proofs.short_loads.push_each.Given as goal

abbrev pub invariant-loop-k : goal.invariant-loop-k
invariant-loop-k l = ArePushedTo l.more l.halvings l.fn.rows l.rows l.loads l.k
