use Rattle.hub_sources.proofs.OneReading.{one_blame_of}
use Rattle.hub_top.proofs.laws.one_blame.Goals as goal

pub returns : goal.returns
returns c = one_blame_of
