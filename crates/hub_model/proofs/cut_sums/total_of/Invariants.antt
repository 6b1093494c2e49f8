use Rattle.std.proofs.Common.{◌≡◌, pos, take}
use Rattle.hub_spec.specs.Cuts.{total}
use Rattle.hub_spec.specs.Cuts.{cut_by}
use Rattle.hub_model.proofs.cut_sums.total_of.Given as goal

abbrev pub invariant-loop-dual : goal.invariant-loop-dual
invariant-loop-dual l = l.sum ≡ pos (total (cut_by (take l.dual-index l.rows)))
