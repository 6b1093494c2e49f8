use Rattle.frac_rows.proofs.LastSolutions.{run_keeps_objective}
use Rattle.frac_rows.proofs.laws.objective_stays.Goals as goal

pub returns : goal.returns
returns c = run_keeps_objective
