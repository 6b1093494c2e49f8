use Rattle.search_spec.proofs.WholeRounds.{search_proof}
use Rattle.search_spec.proofs.round_laws.round_search_is_sound.Goals as goal

pub returns : goal.returns
returns c = search_proof
