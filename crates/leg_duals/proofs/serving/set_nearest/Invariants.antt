use Rattle.std.proofs.Common.{ℕ, ◌<◌, slice_index}
use Rattle.leg_duals.specs.Nearest.{IsNearest}
use Rattle.leg_duals.proofs.serving.set_nearest.Given as goal

abbrev pub invariant-loop-y : goal.invariant-loop-y
invariant-loop-y l = (y : ℕ) → y < l.y → IsNearest l.instance l.hubs l.i (slice_index l.hubs y) (slice_index l.nearest y)
