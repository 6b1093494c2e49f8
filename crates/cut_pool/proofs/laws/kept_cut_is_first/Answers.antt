use Rattle.cut_pool.proofs.KeptCutLaws.{kept_is_first}
use Rattle.cut_pool.proofs.laws.kept_cut_is_first.Goals as goal

pub returns : goal.returns
returns c = kept_is_first
