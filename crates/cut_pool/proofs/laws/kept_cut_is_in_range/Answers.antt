use Rattle.cut_pool.proofs.KeptCutLaws.{kept_in_range}
use Rattle.cut_pool.proofs.laws.kept_cut_is_in_range.Goals as goal

pub returns : goal.returns
returns c = kept_in_range
