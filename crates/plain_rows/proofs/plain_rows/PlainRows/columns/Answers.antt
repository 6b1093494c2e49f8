use Rattle.std.proofs.Common.{arith}
use Rattle.plain_rows.proofs.FlatTables.{width_is, is_table}
use Rattle.plain_rows.proofs.plain_rows.PlainRows.columns.Goals as goal

pub returns-clause-value : goal.returns-clause-value
returns-clause-value c =
    let s = c.self.inside in
    rw (← c.self.view_is)
    (omega (arith, c.len.ensures, c.len-2.ensures, s.basis.ok.0, s.outside.ok.0, width_is s.outside.items s.numbers.items s.basis.items))

pub returns-clause-table : goal.returns-clause-table
returns-clause-table c =
    let s = c.self.inside in
    rw (← c.self.view_is) (is_table s.outside.items s.numbers.items s.basis.items c.self.invariant.stored)
