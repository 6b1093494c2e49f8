use Rattle.search_spec.proofs.WholeRounds.{enough_nodes}
use Rattle.search_spec.proofs.round_laws.round_enough_nodes_suffice.Goals as goal

pub returns : goal.returns
returns c = enough_nodes
