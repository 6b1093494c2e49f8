use Rattle.search_spec.proofs.WholeRounds.{rounds_over_from}
use Rattle.search_spec.proofs.round_laws.rounds_are_over.Goals as goal

pub returns : goal.returns
returns c = rounds_over_from
