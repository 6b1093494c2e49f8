use Rattle.search_spec.proofs.Walking.{goes_on}
use Rattle.search_spec.proofs.walks.walk_goes_on.Goals as goal

pub returns : goal.returns
returns c = goes_on
