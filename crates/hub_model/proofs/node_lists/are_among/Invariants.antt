use Rattle.std.proofs.Common.{take, All, Contains}
use Rattle.hub_model.proofs.node_lists.are_among.Given as goal

abbrev pub invariant-loop-k : goal.invariant-loop-k
invariant-loop-k l = All (Contains l.nodes) (take l.k-index l.members)
