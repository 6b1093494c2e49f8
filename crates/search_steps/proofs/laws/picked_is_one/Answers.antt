use Rattle.search_steps.proofs.Choosing.{picked_one}
use Rattle.search_steps.proofs.laws.picked_is_one.Goals as goal

pub returns : goal.returns
returns c = picked_one
