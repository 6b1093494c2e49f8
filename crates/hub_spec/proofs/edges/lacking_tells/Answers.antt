use Rattle.hub_spec.proofs.Lacking.{tells}
use Rattle.hub_spec.proofs.edges.lacking_tells.Goals as goal

pub returns : goal.returns
returns c = tells
