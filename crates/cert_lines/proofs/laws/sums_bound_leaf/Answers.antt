use Rattle.cert_lines.proofs.TallyBounds.{bounds_leaf}
use Rattle.cert_lines.proofs.laws.sums_bound_leaf.Goals as goal

pub returns : goal.returns
returns c = bounds_leaf
