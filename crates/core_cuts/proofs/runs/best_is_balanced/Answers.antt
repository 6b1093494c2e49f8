use Rattle.core_cuts.proofs.UnitBalances.{best_is_balanced}
use Rattle.core_cuts.proofs.runs.best_is_balanced.Goals as goal

pub returns : goal.returns
returns c = best_is_balanced
