use Rattle.core_cuts.proofs.FoundFunctions.{found_function}
use Rattle.core_cuts.proofs.found_is_function.Goals as goal

pub returns : goal.returns
returns c = found_function
