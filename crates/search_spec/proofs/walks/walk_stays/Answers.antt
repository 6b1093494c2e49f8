use Rattle.search_spec.proofs.Walking.{stays}
use Rattle.search_spec.proofs.walks.walk_stays.Goals as goal

pub returns : goal.returns
returns c = stays
