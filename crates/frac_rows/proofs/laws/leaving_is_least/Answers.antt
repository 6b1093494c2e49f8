use Rattle.frac_rows.proofs.LeavingRows.{leaving_is_least}
use Rattle.frac_rows.proofs.laws.leaving_is_least.Goals as goal

pub returns : goal.returns
returns c = leaving_is_least
