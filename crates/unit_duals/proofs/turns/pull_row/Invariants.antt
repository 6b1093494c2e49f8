use Rattle.unit_duals.specs.Values.{held_origin, IsTurnAt}
use Rattle.unit_duals.proofs.turns.pull_row.Given as goal

abbrev pub invariant-loop-e : goal.invariant-loop-e
invariant-loop-e l = IsTurnAt (held_origin l.lengths) l.lengths.tables.now.legs.size l.t l.e l.values l.slack l.rest
