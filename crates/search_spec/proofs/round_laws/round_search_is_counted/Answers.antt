use Rattle.search_spec.proofs.WholeRounds.{search_counted}
use Rattle.search_spec.proofs.round_laws.round_search_is_counted.Goals as goal

pub returns : goal.returns
returns c = search_counted
