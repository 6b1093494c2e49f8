use Rattle.std.proofs.Common.{arith}
use Rattle.frac_rows.proofs.WholeRows.{length-columns_of}
use Rattle.frac_rows.proofs.columns.Columns.height.Goals as goal

pub returns-clause-limits : goal.returns-clause-limits
returns-clause-limits c =
    rw (← c.self.view_is)
    (record {
      some_row = c.self.invariant.columns.some_row;
      few = omega (arith, length-columns_of c.self.inside.height c.self.inside.variables c.self.inside.numbers.items, c.self.invariant.columns.few);
    })
