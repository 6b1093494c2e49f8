use Rattle.core_cuts.proofs.OneReading.{found_one}
use Rattle.core_cuts.proofs.found_is_one.Goals as goal

pub returns : goal.returns
returns c = found_one
