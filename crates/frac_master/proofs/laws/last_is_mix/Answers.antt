use Rattle.frac_master.proofs.BestMixes.{last_is_mix}
use Rattle.frac_master.proofs.laws.last_is_mix.Goals as goal

pub returns : goal.returns
returns c = last_is_mix
