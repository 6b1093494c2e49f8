use Rattle.frac_rows.proofs.LastSolutions.{run_keeps_solutions}
use Rattle.frac_rows.proofs.laws.solutions_stay.Goals as goal

pub returns : goal.returns
returns c = run_keeps_solutions
