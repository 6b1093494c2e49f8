use Rattle.hub_top.proofs.OneTexts.{solved_verdict}
use Rattle.hub_top.proofs.laws.solved_is_optimal.Goals as goal

pub returns : goal.returns
returns c = solved_verdict
