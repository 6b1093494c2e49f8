use Rattle.std.proofs.Common.{arith}
use Rattle.frac_rows.proofs.RoughRows.{none_wide_told}
use Rattle.frac_rows.proofs.widths.wide_told.Goals as goal

pub returns-then-is_told-clause-none : goal.returns-then-is_told-clause-none
returns-then-is_told-clause-none c = λ _.
    none_wide_told c.args.whole.now.variables c.args.whole.now.numbers.now c.args.whole.now.row.now c.args.margin c.args.most c.args.first c.args.last c.args.sums.now
    c.requires.telling c.requires.one_each
    (λ l low. omega (arith, c.greatest_size.ensures l low, c.is_told.ensures c.if-is_told.true))
