use Rattle.std.proofs.Common.{◌+◌, ◌∙◌, sym, ap₂}
use Rattle.frac_rows.proofs.TableFacts.{width_is, is_table}
use Rattle.frac_rows.proofs.kept_rows.Rows.columns.Goals as goal

pub returns-clause-value : goal.returns-clause-value
returns-clause-value c =
    let s = c.self.inside in
    rw (← c.self.view_is)
    (ap₂ (λ v h. v + h + 1) c.variables.ensures c.height.ensures.value
    ∙ sym (width_is s.columns s.numbers.items s.basis.items c.self.invariant.stored))

pub returns-clause-table : goal.returns-clause-table
returns-clause-table c =
    rw (← c.self.view_is) (is_table c.self.inside.columns c.self.inside.numbers.items c.self.inside.basis.items c.self.invariant.stored)
