use Rattle.std.proofs.Common.{◌≡◌, ℕ, ◌<◌, slice_index}
use Rattle.assign_sub.specs.LeastLengths.{least_reach}
use Rattle.assign_sub.proofs.set_costs.set_reaches.Given as goal

abbrev pub invariant-loop-y : goal.invariant-loop-y
invariant-loop-y l = (y : ℕ) → y < l.y → slice_index l.reaches y ≡ least_reach l.instance l.hubs l.i (slice_index l.hubs y)
