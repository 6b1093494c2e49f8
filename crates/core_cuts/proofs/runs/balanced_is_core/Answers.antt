use Rattle.core_cuts.proofs.MadeDuals.{balanced_is_core}
use Rattle.core_cuts.proofs.runs.balanced_is_core.Goals as goal

pub returns : goal.returns
returns c = balanced_is_core
