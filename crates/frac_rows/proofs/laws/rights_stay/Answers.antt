use Rattle.frac_rows.proofs.RunLaws.{run_keeps_rights}
use Rattle.frac_rows.proofs.laws.rights_stay.Goals as goal

pub returns : goal.returns
returns c = run_keeps_rights
