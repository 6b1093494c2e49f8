use Rattle.search_spec.proofs.ByOutcomes.{round_by_outcomes}
use Rattle.search_spec.proofs.round_laws.round_is_by_outcomes.Goals as goal

pub returns : goal.returns
returns c = round_by_outcomes
