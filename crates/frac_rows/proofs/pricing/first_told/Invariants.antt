use Rattle.frac_rows.specs.RoughRows.{NoneBelow}
use Rattle.frac_rows.proofs.pricing.first_told.Given as goal

abbrev pub invariant-loop-j : goal.invariant-loop-j
invariant-loop-j l = NoneBelow l.whole.variables l.whole.numbers.now l.whole.row.now l.first l.j
