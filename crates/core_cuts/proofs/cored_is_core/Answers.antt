use Rattle.core_cuts.proofs.CoredCuts.{cored_core}
use Rattle.core_cuts.proofs.cored_is_core.Goals as goal

pub returns : goal.returns
returns c = cored_core
