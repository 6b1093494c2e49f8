use Rattle.frac_rows.proofs.BasicSolutions.{basic_solves}
use Rattle.frac_rows.proofs.laws.basic_solves.Goals as goal

pub returns : goal.returns
returns c = basic_solves
