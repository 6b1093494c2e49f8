use Rattle.core_cuts.proofs.Found.{found_is_core}
use Rattle.core_cuts.proofs.runs.reading_is_core.Goals as goal

pub returns : goal.returns
returns c = found_is_core
