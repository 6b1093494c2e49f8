use Rattle.frac_rows.specs.Stored.{AreFirst}
use Rattle.frac_rows.proofs.starts.write_rows.Given as goal

abbrev pub invariant-loop-i : goal.invariant-loop-i
invariant-loop-i l = AreFirst l.rights l.i l.numbers
