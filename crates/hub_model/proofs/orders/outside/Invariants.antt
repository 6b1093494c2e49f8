use Rattle.std.proofs.Common.{take}
use Rattle.hub_model.proofs.OutsideNodes.{IsOutside}
use Rattle.hub_model.proofs.orders.outside.Given as goal

abbrev pub invariant-loop-k : goal.invariant-loop-k
invariant-loop-k l = IsOutside l.hubs (take l.k-index l.k-items) l.nodes.items
