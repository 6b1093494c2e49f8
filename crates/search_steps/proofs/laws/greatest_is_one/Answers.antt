use Rattle.search_steps.proofs.Choosing.{greatest_one}
use Rattle.search_steps.proofs.laws.greatest_is_one.Goals as goal

pub returns : goal.returns
returns c = greatest_one
