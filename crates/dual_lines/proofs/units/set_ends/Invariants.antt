use Rattle.std.proofs.Common.{◌≡◌, ℕ, ◌+◌, ◌*◌, ◌<◌, ◌≤◌, length, slice_index}
use Rattle.leg_duals.specs.CandidateLegs.{delivery_length}
use Rattle.dual_lines.specs.Units.{most_unit}
use Rattle.dual_lines.proofs.units.set_ends.Given as goal

abbrev pub invariant-loop-y : goal.invariant-loop-y
invariant-loop-y l = record {
  room : length l.legs.candidates ≤ length l.ends;
  ends : (y : ℕ) → y < l.y → slice_index l.ends y ≤ 2 * most_unit;
  each : (y : ℕ) → y < l.y → slice_index l.ends y ≡ delivery_length l.legs l.j y + slice_index l.units y;
  least : (y : ℕ) → y < l.y → l.least ≤ slice_index l.ends y;
  limit : l.least ≤ most_unit;
}
