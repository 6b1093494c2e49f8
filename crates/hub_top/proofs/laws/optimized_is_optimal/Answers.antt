use Rattle.hub_top.proofs.OneTexts.{optimized_verdict}
use Rattle.hub_top.proofs.laws.optimized_is_optimal.Goals as goal

pub returns : goal.returns
returns c = optimized_verdict
