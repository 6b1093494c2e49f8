use Rattle.core_cuts.proofs.WayOrder.{found_ordered}
use Rattle.core_cuts.proofs.found_in_order.Goals as goal

pub returns : goal.returns
returns c = found_ordered
