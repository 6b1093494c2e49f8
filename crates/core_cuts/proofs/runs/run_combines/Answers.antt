use Rattle.core_cuts.proofs.Combining.{run_combines}
use Rattle.core_cuts.proofs.runs.run_combines.Goals as goal

pub returns : goal.returns
returns c = run_combines
