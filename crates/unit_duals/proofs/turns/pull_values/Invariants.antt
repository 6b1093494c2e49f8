use Rattle.unit_duals.specs.Values.{AreRowsDone, AreRowsNoted}
use Rattle.unit_duals.proofs.turns.pull_values.Given as goal

abbrev pub invariant-loop-t : goal.invariant-loop-t
invariant-loop-t l = record { done : AreRowsDone l.lengths l.t l.values; slacks : AreRowsNoted l.lengths l.t l.values l.slack l.rest }
