use Rattle.p_hub.proofs.CountedBounds.{leaf_counted}
use Rattle.p_hub.proofs.laws.leaf_has_counted.Goals as goal

pub returns : goal.returns
returns c = leaf_counted
