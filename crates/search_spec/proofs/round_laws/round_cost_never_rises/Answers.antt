use Rattle.search_spec.proofs.RoundCosts.{cost_falls}
use Rattle.search_spec.proofs.round_laws.round_cost_never_rises.Goals as goal

pub returns : goal.returns
returns c = cost_falls
