use Rattle.core_cuts.proofs.OneReading.{found_not}
use Rattle.core_cuts.proofs.found_or_not.Goals as goal

pub returns : goal.returns
returns c = found_not
