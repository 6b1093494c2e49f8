use Rattle.cut_pool.proofs.KeptCutLaws.{kept_mark_is}
use Rattle.cut_pool.proofs.laws.kept_mark_is_mark.Goals as goal

pub returns : goal.returns
returns c = kept_mark_is
