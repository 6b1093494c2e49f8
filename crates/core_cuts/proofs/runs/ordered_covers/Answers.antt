use Rattle.core_cuts.proofs.OrderedWays.{ordered_covers}
use Rattle.core_cuts.proofs.runs.ordered_covers.Goals as goal

pub returns : goal.returns
returns c = ordered_covers
