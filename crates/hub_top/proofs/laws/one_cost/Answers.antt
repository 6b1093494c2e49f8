use Rattle.hub_top.proofs.OneTexts.{one_cost_of}
use Rattle.hub_top.proofs.laws.one_cost.Goals as goal

pub returns : goal.returns
returns c = one_cost_of
