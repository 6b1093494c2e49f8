use Rattle.search_spec.proofs.FallingCosts.{begun_most}
use Rattle.search_spec.proofs.costs.begun_is_at_most.Goals as goal

pub returns : goal.returns
returns c = begun_most
