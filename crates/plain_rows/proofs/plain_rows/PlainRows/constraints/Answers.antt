use Rattle.std.proofs.Common.{◌∙◌, length, sym, ap}
use Rattle.plain_rows.proofs.FlatTables.{basis_of, is_table}
use Rattle.plain_rows.proofs.plain_rows.PlainRows.constraints.Goals as goal

pub returns-clause-value : goal.returns-clause-value
returns-clause-value c =
    let s = c.self.inside in
    rw (← c.self.view_is) (c.len.ensures ∙ s.basis.ok.0 ∙ ap length (sym (basis_of s.outside.items s.numbers.items s.basis.items)))

pub returns-clause-table : goal.returns-clause-table
returns-clause-table c =
    let s = c.self.inside in
    rw (← c.self.view_is) (is_table s.outside.items s.numbers.items s.basis.items c.self.invariant.stored)
