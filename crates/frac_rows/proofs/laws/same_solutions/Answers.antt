use Rattle.frac_rows.proofs.Solutions.{pivot_keeps_solutions}
use Rattle.frac_rows.proofs.laws.same_solutions.Goals as goal

pub returns : goal.returns
returns c = pivot_keeps_solutions
