use Rattle.core_cuts.proofs.BestCovers.{best_is_cover}
use Rattle.core_cuts.proofs.runs.best_is_cover.Goals as goal

pub returns : goal.returns
returns c = best_is_cover
