use Rattle.frac_rows.proofs.BasicSolutions.{some_basic_solution}
use Rattle.frac_rows.proofs.laws.some_basic_solution.Goals as goal

pub returns : goal.returns
returns c = some_basic_solution
