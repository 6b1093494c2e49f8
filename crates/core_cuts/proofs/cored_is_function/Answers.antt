use Rattle.core_cuts.proofs.CoredFunctions.{cored_function}
use Rattle.core_cuts.proofs.cored_is_function.Goals as goal

pub returns : goal.returns
returns c = cored_function
