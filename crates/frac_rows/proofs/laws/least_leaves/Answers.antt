use Rattle.frac_rows.proofs.LeavingRows.{least_leaves}
use Rattle.frac_rows.proofs.laws.least_leaves.Goals as goal

pub returns : goal.returns
returns c = least_leaves
