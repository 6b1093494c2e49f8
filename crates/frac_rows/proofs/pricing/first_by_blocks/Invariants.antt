use Rattle.std.proofs.Common.{◌*◌, min}
use Rattle.frac_rows.specs.RoughRows.{NoneBelow}
use Rattle.frac_rows.proofs.pricing.first_by_blocks.Given as goal

abbrev pub invariant-loop-block : goal.invariant-loop-block
invariant-loop-block l = NoneBelow l.whole.variables l.whole.numbers.now l.whole.row.now 0 (min l.whole.variables (l.block * 32))
