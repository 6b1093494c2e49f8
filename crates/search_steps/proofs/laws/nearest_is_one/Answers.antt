use Rattle.search_steps.proofs.Choosing.{nearest_one}
use Rattle.search_steps.proofs.laws.nearest_is_one.Goals as goal

pub returns : goal.returns
returns c = nearest_one
