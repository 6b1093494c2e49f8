use Rattle.hub_top.proofs.OneTexts.{bounded_verdict}
use Rattle.hub_top.proofs.laws.bounded_is_bounds.Goals as goal

pub returns : goal.returns
returns c = bounded_verdict
