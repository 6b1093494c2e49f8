use Rattle.plain_rows.proofs.SpreadWrites.{AreSpread}
use Rattle.plain_rows.proofs.entries.write_spread.Given as goal

abbrev pub invariant-loop-c : goal.invariant-loop-c
invariant-loop-c l = AreSpread l.outside l.kept l.c l.out
