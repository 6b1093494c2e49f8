use Rattle.cut_pool.proofs.KeptCutLaws.{kept_part_is}
use Rattle.cut_pool.proofs.laws.kept_part_is_part.Goals as goal

pub returns : goal.returns
returns c = kept_part_is
