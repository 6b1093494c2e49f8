use Rattle.frac_rows.specs.RoughRows.{NoneWide}
use Rattle.frac_rows.proofs.widths.wide_told.Given as goal

abbrev pub invariant-loop-j : goal.invariant-loop-j
invariant-loop-j l = NoneWide l.whole.variables l.whole.numbers.now l.whole.row.now l.first l.j
