use Rattle.search_spec.proofs.WholeRounds.{search_stopped}
use Rattle.search_spec.proofs.round_laws.round_stop_is_for_nodes.Goals as goal

pub returns : goal.returns
returns c = search_stopped
