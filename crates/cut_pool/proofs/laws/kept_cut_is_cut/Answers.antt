use Rattle.cut_pool.proofs.KeptCutLaws.{kept_is_cut}
use Rattle.cut_pool.proofs.laws.kept_cut_is_cut.Goals as goal

pub returns : goal.returns
returns c = kept_is_cut
