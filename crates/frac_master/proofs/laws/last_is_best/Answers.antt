use Rattle.frac_master.proofs.BestMixes.{last_is_best}
use Rattle.frac_master.proofs.laws.last_is_best.Goals as goal

pub returns : goal.returns
returns c = last_is_best
