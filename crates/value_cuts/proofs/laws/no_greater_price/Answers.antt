use Rattle.cut_model.proofs.ValueDuals.{none_greater}
use Rattle.value_cuts.proofs.laws.no_greater_price.Goals as goal

pub returns : goal.returns
returns c = none_greater
