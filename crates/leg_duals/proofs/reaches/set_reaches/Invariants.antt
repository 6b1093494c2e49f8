use Rattle.std.proofs.Common.{ℕ, ◌<◌, slice_index}
use Rattle.leg_duals.specs.Lowered.{IsReached}
use Rattle.leg_duals.proofs.reaches.set_reaches.Given as goal

abbrev pub invariant-loop-m : goal.invariant-loop-m
invariant-loop-m l = (m : ℕ) → m < l.m → IsReached l.ways m (slice_index l.by m) (slice_index l.bases m) (slice_index l.aways m)
