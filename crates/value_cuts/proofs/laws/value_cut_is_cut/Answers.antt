use Rattle.cut_model.proofs.ValueCuts.{cut_is}
use Rattle.value_cuts.proofs.laws.value_cut_is_cut.Goals as goal

pub returns : goal.returns
returns c = cut_is
