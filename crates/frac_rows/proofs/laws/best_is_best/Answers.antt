use Rattle.frac_rows.proofs.BestTables.{best_is_greatest}
use Rattle.frac_rows.proofs.laws.best_is_best.Goals as goal

pub returns : goal.returns
returns c = best_is_greatest
