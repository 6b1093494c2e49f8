use Rattle.core_cuts.proofs.ServingCuts.{cored_serves}
use Rattle.core_cuts.proofs.cored_serves.Goals as goal

pub returns : goal.returns
returns c = cored_serves
