use Rattle.plain_rows.specs.Flat.{AreFirst}
use Rattle.plain_rows.proofs.starts.write_rows.Given as goal

abbrev pub invariant-loop-i : goal.invariant-loop-i
invariant-loop-i l = AreFirst l.variables l.given l.rights l.i l.numbers
