use Rattle.cut_model.proofs.ValueCuts.{cut_in_range}
use Rattle.value_cuts.proofs.laws.value_cut_is_in_range.Goals as goal

pub returns : goal.returns
returns c = cut_in_range
