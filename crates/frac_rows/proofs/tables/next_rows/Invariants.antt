use Rattle.frac_rows.specs.Steps.{AreAfter}
use Rattle.frac_rows.proofs.tables.next_rows.Given as goal

abbrev pub invariant-loop-i : goal.invariant-loop-i
invariant-loop-i l = AreAfter l.columns l.numbers l.pivot.row l.pivot.entering.column l.i l.spare
