use Rattle.std.proofs.Common.{take}
use Rattle.hub_model.specs.HubCuts.{AreLoads}
use Rattle.hub_model.proofs.cut_sums.loads_of.Given as goal
use Rattle.hub_spec.specs.Cuts.{cut_by}

abbrev pub invariant-loop-t : goal.invariant-loop-t
invariant-loop-t l = AreLoads l.loads.items (cut_by (take l.t l.rows))
