use Rattle.search_spec.proofs.WholeRounds.{round_falls_from}
use Rattle.search_spec.proofs.round_laws.each_round_falls.Goals as goal

pub returns : goal.returns
returns c = round_falls_from
