use Rattle.std.proofs.Common.{ℕ, ◌+◌, ◌<◌, slice_index}
use Rattle.hub_spec.specs.Problem.{distance}
use Rattle.leg_duals.proofs.serving.is_served.Given as goal

abbrev pub invariant-loop-y : goal.invariant-loop-y
invariant-loop-y l = (y : ℕ) → y < l.y → l.most < slice_index l.nearest y + distance l.instance (slice_index l.hubs y) l.j
