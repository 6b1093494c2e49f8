use Rattle.search_spec.proofs.FallingCosts.{cost_falls}
use Rattle.search_spec.proofs.costs.cost_never_rises.Goals as goal

pub returns : goal.returns
returns c = cost_falls
