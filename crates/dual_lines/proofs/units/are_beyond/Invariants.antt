use Rattle.std.proofs.Common.{ℕ, ◌+◌, ◌-◌, ◌^◌, ◌<◌, ◌≤◌, slice_index}
use Rattle.dual_lines.proofs.units.are_beyond.Given as goal

abbrev pub invariant-loop-y : goal.invariant-loop-y
invariant-loop-y l = (y : ℕ) → y < l.y → l.common ≤ slice_index l.trunk y + slice_index l.ends y + (2 ^ 62 - l.bound)
