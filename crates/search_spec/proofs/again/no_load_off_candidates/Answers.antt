use Rattle.search_spec.proofs.Loads.{no_load_off}
use Rattle.search_spec.proofs.again.no_load_off_candidates.Goals as goal

pub returns : goal.returns
returns c = no_load_off
