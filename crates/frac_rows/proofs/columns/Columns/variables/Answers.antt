use Rattle.std.proofs.Common.{sym}
use Rattle.frac_rows.proofs.WholeRows.{length-columns_of}
use Rattle.frac_rows.proofs.columns.Columns.variables.Goals as goal

pub returns : goal.returns
returns c = rw (← c.self.view_is) (sym (length-columns_of c.self.inside.height c.self.inside.variables c.self.inside.numbers.items))
