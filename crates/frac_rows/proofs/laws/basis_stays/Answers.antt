use Rattle.frac_rows.proofs.RunLaws.{run_keeps_basis}
use Rattle.frac_rows.proofs.laws.basis_stays.Goals as goal

pub returns : goal.returns
returns c = run_keeps_basis
