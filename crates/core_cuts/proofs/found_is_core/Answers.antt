use Rattle.core_cuts.proofs.Duals.{found_core}
use Rattle.core_cuts.proofs.found_is_core.Goals as goal

pub returns : goal.returns
returns c = found_core
