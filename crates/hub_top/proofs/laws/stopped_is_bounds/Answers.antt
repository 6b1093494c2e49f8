use Rattle.hub_top.proofs.OneTexts.{stopped_verdict}
use Rattle.hub_top.proofs.laws.stopped_is_bounds.Goals as goal

pub returns : goal.returns
returns c = stopped_verdict
