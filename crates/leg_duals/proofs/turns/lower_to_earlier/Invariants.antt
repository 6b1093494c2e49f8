use Rattle.std.proofs.Common.{◌≤◌, slice_index, All}
use Rattle.unit_duals.specs.Cells.{cell}
use Rattle.leg_duals.specs.Ways.{IsWayBeside, no_way}
use Rattle.leg_duals.specs.Lowered.{AreLowered, IsSpared}
use Rattle.leg_duals.proofs.turns.lower_to_earlier.Given as goal

abbrev pub invariant-loop-e : goal.invariant-loop-e
invariant-loop-e l = record {
  lowered : AreLowered l.ways.size l.e (IsSpared l.ways l.reaches l.t)
      (λ e. IsWayBeside l.ways (cell l.ways.size l.values e) l.t e) (slice_index l.fn.least) (slice_index l.least);
  limit : All (λ d. d ≤ no_way) l.least;
}
