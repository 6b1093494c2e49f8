use Rattle.search_spec.proofs.FallingCosts.{again_most}
use Rattle.search_spec.proofs.costs.again_is_at_most.Goals as goal

pub returns : goal.returns
returns c = again_most
