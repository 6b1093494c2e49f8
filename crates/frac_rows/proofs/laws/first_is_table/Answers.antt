use Rattle.frac_rows.proofs.FirstTables.{first_is_table}
use Rattle.frac_rows.proofs.laws.first_is_table.Goals as goal

pub returns : goal.returns
returns c = first_is_table
