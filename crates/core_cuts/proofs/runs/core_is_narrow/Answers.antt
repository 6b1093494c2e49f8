use Rattle.core_cuts.proofs.Found.{core_is_narrow}
use Rattle.core_cuts.proofs.runs.core_is_narrow.Goals as goal

pub returns : goal.returns
returns c = core_is_narrow
