use Rattle.std.proofs.Common.{refl}
use Rattle.ascent_search.proofs.leaves.with_order.Goals as goal

pub returns : goal.returns
returns c = record { hubs = refl; is_set = c.requires; is_order = c.in_ok-order.ensures.order }
