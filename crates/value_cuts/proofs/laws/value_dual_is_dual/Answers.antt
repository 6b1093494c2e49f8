use Rattle.cut_model.proofs.ValueDuals.{dual_is}
use Rattle.value_cuts.proofs.laws.value_dual_is_dual.Goals as goal

pub returns : goal.returns
returns c = dual_is
